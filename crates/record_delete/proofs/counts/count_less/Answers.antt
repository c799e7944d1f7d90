use Rattle.std.proofs.Common.{◌-◌, ◌<◌, ◌∷◌, List, [], Some, arith, length, subst, sym}
use Rattle.std.specs.List.{flat_map}
use Rattle.store_edit.specs.Rows.{change_to}
use Rattle.store_kv.specs.Tables.{Tables}
use Rattle.store_kv.specs.declared.keeper.Change.{Change as Spelled}
use Rattle.store_rows.specs.Rows.{org_form}
use Rattle.model.specs.Objects.{numbered}
use Rattle.store_abstraction.specs.Local.{StandsIn}
use Rattle.store_abstraction.specs.Metadata.{org_of}
use Rattle.record_delete.specs.Deleting.{object_less}
use Rattle.record_delete.proofs.Adding.{adds_then, adds_wider, longer, on_done, some_behind, these_then}
use Rattle.record_delete.proofs.CountRows.{adds_org, all_are, are_objects, these_org}
use Rattle.record_delete.proofs.counts.count_less.Goals as goal

pub returns-clause-adds : goal.returns-clause-adds
returns-clause-adds g c told q t s all =
    let a = c.args.draft.now in
    let b = c.org_there.new.draft in
    let d = c.count_objects.new.draft in
    let org = c.args.org in
    let tell = c.draft_laws.ensures.both 0 0 a b d c.org_there.ensures.calls.reads c.count_objects.ensures.calls.reads told in
    let stands = subst (λ (m : Tables). StandsIn org q m (Some t)) (sym tell.2) s in
    let finds = (c.in_ok-row.ensures.finds tell.0).0 q (Some t) s in
    these_then (change_to org_form (record (org_of org t) { records = length t.records - length c.args.ids.now }) ∷ []) (flat_map (object_less org t c.args.ids.now) (numbered t.objects)) c.args.changes.now.items c.put_org.new.changes.items c.count_objects.new.changes.items c.count_objects.result
    (these_org org _ t q c.in_ok-row.row c.args.changes.now.items c.put_org.new.changes.items finds c.put_org.ensures.fits c.in_ok-put_org.ensures.added)
    (c.count_objects.ensures.adds tell.1 q t (numbered t.objects) stands (all_are org q t c.args.layouts.now all) (are_objects t))

pub returns-clause-own : goal.returns-clause-own
returns-clause-own g c =
    let old = c.args.changes.now.items in
    let mid = c.put_org.new.changes.items in
    let new = c.count_objects.new.changes.items in
    let first = adds_org c.args.org _ c.in_ok-row.row old mid c.put_org.ensures.fits c.in_ok-put_org.ensures.added in
    on_done _ _ c.count_objects.result c.count_objects.ensures.own (λ rest. (
      adds_wider c.args.org _ _ _ _ old new (omega arith) (omega arith) (adds_then c.args.org 1 0 _ 0 old mid new first rest),
      longer c.args.org _ 0 mid new rest (subst (λ (cs : List Spelled). 0 < length cs) (sym c.in_ok-put_org.ensures.added) (some_behind old _)),
    ))
