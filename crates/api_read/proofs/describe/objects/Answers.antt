use Rattle.std.proofs.Common.{◌∙◌, Some, Ok, ap, subst, sym}
use Rattle.model_reads.specs.DescribeJson.{objects_json}
use Rattle.store_abstraction.specs.Layouts.{own_layouts}
use Rattle.store_abstraction.specs.Local.{FindsIn}
use Rattle.store_kv.specs.Draft.{tables_of}
use Rattle.api_read.specs.inner.DescribedLayouts.{objects_by}
use Rattle.api_read.proofs.DescribedObjects.{objects_are}
use Rattle.api_read.proofs.ObjectsTold.{stopped_finding, told_again}
use Rattle.api_read.proofs.describe.objects.Goals as goal

pub returns-in-Ok-clause-tells : goal.returns-in-Ok-clause-tells
returns-in-Ok-clause-tells g c told q t s =
    let layouts = c.as_slice.result.now in
    told_again (Ok (objects_json t)) (Ok (objects_by layouts)) c.objects_told.result
    (ap Ok (sym (objects_are c.args.org q t layouts (c.as_slice.ensures ∙ c.in-Ok.ensures.finds told q (Some t) s))))
    c.objects_told.ensures.value

pub returns-in-Err-clause-tells : goal.returns-in-Err-clause-tells
returns-in-Err-clause-tells g c told q t s =
    let org = c.args.org in
    let m = tables_of g.K.Keeper.state c.args.draft.now in
    stopped_finding org (own_layouts org) m (Ok (objects_json t)) q t c.in-Err.fail s (subst (FindsIn org (own_layouts org) m) c.in-Err.is (c.layouts.ensures.finds told))
