use Rattle.std.proofs.Common.{◌∙◌, Err, ap, subst, sym}
use Rattle.std.specs.Prelude.{Option}
use Rattle.std.specs.Str.{chars}
use Rattle.std.proofs.lemmas.Result.{err_from_is_err_and}
use Rattle.store_kv.specs.Draft.{tables_of}
use Rattle.store_kv.specs.Tables.{Tables}
use Rattle.store_rows.specs.declared.object.ObjectRow.{ObjectRow}
use Rattle.store_abstraction.specs.inner.LayoutRows.{ListsIn, layout_by_found, object_rows}
use Rattle.store_abstraction.specs.Layouts.{own_layout_named}
use Rattle.store_abstraction.specs.Local.{FindsIn}
use Rattle.store_abstraction.proofs.LayoutReads.{list_failed, named_found}
use Rattle.store_abstraction.proofs.layout_reads.layout_named.Goals as goal

pub returns-in_err-rows-clause-finds : goal.returns-in_err-rows-clause-finds
returns-in_err-rows-clause-finds g c told =
    let m = tables_of g.K.Keeper.state c.args.draft.now in
    let org = c.args.org in
    let name = chars c.args.name.now in
    let p = err_from_is_err_and c.from_residual.result c.from_residual.ensures.1 in
    subst (FindsIn org (own_layout_named org name) m) (sym (p.1 ∙ ap Err p.2))
    (list_failed org (object_rows org) (own_layout_named org name) m c.objects_of.result c.in_err-rows.field-0.0 c.in_err-rows.was (c.objects_of.ensures.finds told))

pub returns-clause-finds : goal.returns-clause-finds
returns-clause-finds g c told =
    let a = c.args.draft.now in
    let b = c.objects_of.new.draft in
    let d = c.layout_of_found.new.draft in
    let m = tables_of g.K.Keeper.state a in
    let org = c.args.org in
    let name = chars c.args.name.now in
    let tell = c.draft_laws.ensures.both 0 0 a b d c.objects_of.ensures.calls.reads c.layout_of_found.ensures.calls.reads told in
    let layout = subst (λ (t : Tables). FindsIn org (layout_by_found org c.row_named-row.result) t c.layout_of_found.result) tell.2 (c.layout_of_found.ensures.finds tell.1) in
    named_found org name m c.in_ok-rows.rows.items c.layout_of_found.result
    (subst (ListsIn org (object_rows org) m) c.in_ok-rows.was (c.objects_of.ensures.finds tell.0))
    (subst (λ (row : Option ObjectRow). FindsIn org (layout_by_found org row) m c.layout_of_found.result) c.row_named-row.ensures layout)
