use Rattle.std.proofs.Common.{◌≡◌, ◌≤◌, ◌+◌, ◌++◌, ◌∙◌, List, Some, length, rules, subst, sym, true, w64, ℕ}
use Rattle.std.proofs.lemmas.Int.{to_z-of_z}
use Rattle.std.specs.Prelude.{FitsSigned, ℤ}
use Rattle.std.specs.List.{AllByRecursion}
use Rattle.record_cascade.specs.Deletion.{cleared_ids, gone_ids}
use Rattle.store_kv.specs.Tables.{Tables}
use Rattle.model.specs.Deletes.{has_id, loses_lookup, without}
use Rattle.model.specs.Objects.{record_at}
use Rattle.model.specs.declared.record.Record.{Record}
use Rattle.store_abstraction.specs.Local.{StandsIn}
use Rattle.record_index.specs.diff.Touched.{has, touched_changes}
use Rattle.record_delete.specs.Deleting.{counts_less, deleted_changes, shares_ended}
use Rattle.record_delete.specs.inner.Adding.{AddsThese}
use Rattle.record_delete.proofs.Adding.{on_done}
use Rattle.record_delete.proofs.AllChanges.{all_cleared, deleted_few, deleted_so}
use Rattle.record_delete.proofs.CountRows.{stopped}
use Rattle.record_delete.proofs.Members.{gone_alike}
use Rattle.record_delete.proofs.deleting.add_changes.Goals as goal

pub returns-in_err-take_records-clause-adds : goal.returns-in_err-take_records-clause-adds
returns-in_err-take_records-clause-adds g c told q t rs s layouts gone cleared there =
    let org = c.args.org in
    stopped ((counts_less org t (gone_ids t rs) ++ shares_ended org t (gone_ids t rs)) ++ touched_changes org q q t (without c.args.now rs t) (gone_ids t rs)) (deleted_changes org q c.args.now t rs) c.args.changes.now.items c.take_records.new.changes.items c.take_records.result c.in_err-take_records.field-0.0 c.from_residual.result
    (c.take_records.ensures.adds told q t c.args.now rs s layouts gone) c.in_err-take_records.was c.from_residual.ensures.1

pub returns-clause-adds : goal.returns-clause-adds
returns-clause-adds g c told q t rs s layouts gone cleared there =
    let org = c.args.org in
    let now = c.args.now in
    let small : FitsSigned w64 now = search rules in
    let a = c.args.draft.now in
    let b = c.take_records.new.draft in
    let d = c.clear_records.new.draft in
    let tell = c.draft_laws.ensures.both _ _ a b d c.take_records.ensures.calls.reads c.clear_records.ensures.calls.reads told in
    let after = subst (λ (m : Tables). StandsIn org q m (Some t)) (sym tell.2) s in
    let ids = c.as_slice-cleared.result.now in
    let old = c.args.changes.now.items in
    let mid = c.take_records.new.changes.items in
    let new = c.clear_records.new.changes.items in
    let same : ids ≡ cleared_ids t rs = c.as_slice-cleared.ensures ∙ cleared in
    let gone_same : c.as_slice-gone.result.now ≡ gone_ids t rs = c.as_slice-gone.ensures ∙ gone in
    let ls = layouts ∙ sym c.as_slice-layouts.ensures in
    let each = (c.touched_laws.ensures.kept q t s.sound s.plan).each in
    let alike = subst (λ (is : List (List ℕ)). (i : List ℕ) → has is i ≡ has_id rs i) (sym gone_same) (gone_alike t rs there) in
    let lose = subst (AllByRecursion (λ i. (r : Record) × (record_at t i ≡ Some r) × (loses_lookup t rs r ≡ true))) (sym same) (all_cleared t rs each) in
    deleted_so org q now t rs ids old mid new c.clear_records.result same
    (subst (AddsThese ((counts_less org t (gone_ids t rs) ++ shares_ended org t (gone_ids t rs)) ++ touched_changes org q q t (without now rs t) (gone_ids t rs)) old mid) c.in_ok-take_records.was (c.take_records.ensures.adds tell.0 q t now rs s layouts gone))
    (subst (λ (z : ℤ). AddsThese (touched_changes org q q t (without z rs t) ids) mid new c.clear_records.result) (to_z-of_z w64 now small) (c.clear_records.ensures.adds tell.1 q t rs after ls alike lose))

pub returns-clause-own : goal.returns-clause-own
returns-clause-own g c =
    let ids = c.as_slice-cleared.result.now in
    let old = c.args.changes.now.items in
    let mid = c.take_records.new.changes.items in
    let new = c.clear_records.new.changes.items in
    let gone = c.args.doomed.now.deletion.gone in
    let few = subst (λ (is : List (List ℕ)). length gone + length is ≤ 1000) (sym c.as_slice-cleared.ensures) c.requires.few in
    on_done _ _ c.clear_records.result c.clear_records.ensures.own (λ last. deleted_few c.args.org (length gone) (length ids) old mid new few c.in_ok-take_records.ensures.own last)
