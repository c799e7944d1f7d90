use Rattle.std.proofs.Common.{◌∙◌, Some, subst, sym}
use Rattle.model_reads.specs.Reads.{description_told}
use Rattle.store_abstraction.specs.Layouts.{own_layouts}
use Rattle.store_abstraction.specs.Local.{FindsIn}
use Rattle.store_kv.specs.Draft.{tables_of}
use Rattle.api_read.specs.inner.DescribedLayouts.{told_by}
use Rattle.api_read.proofs.DescribedObjects.{told_is}
use Rattle.api_read.proofs.ObjectsTold.{stopped_finding, told_again}
use Rattle.api_read.proofs.describe.description.Goals as goal

pub returns-in-Ok-clause-tells : goal.returns-in-Ok-clause-tells
returns-in-Ok-clause-tells g c told q t s =
    let layouts = c.as_slice.result.now in
    let name = c.args.name.now in
    told_again (description_told t name) (told_by layouts name) c.told_by.result
    (sym (told_is c.args.org q t layouts name (c.as_slice.ensures ∙ c.in-Ok.ensures.finds told q (Some t) s)))
    c.told_by.ensures.value

pub returns-in-Err-clause-tells : goal.returns-in-Err-clause-tells
returns-in-Err-clause-tells g c told q t s =
    let org = c.args.org in
    let m = tables_of g.K.Keeper.state c.args.draft.now in
    stopped_finding org (own_layouts org) m (description_told t c.args.name.now) q t c.in-Err.fail s (subst (FindsIn org (own_layouts org) m) c.in-Err.is (c.layouts.ensures.finds told))
