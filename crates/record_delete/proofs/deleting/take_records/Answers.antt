use Rattle.std.proofs.Common.{◌≡◌, ◌<◌, ◌≤◌, ◌+◌, ◌*◌, ◌∙◌, IsTrue, List, Some, length, subst, sym, true, ℕ}
use Rattle.std.specs.Prelude.{is_some}
use Rattle.std.specs.List.{AllByRecursion}
use Rattle.record_cascade.specs.Deletion.{gone_ids}
use Rattle.store_kv.specs.Tables.{Tables}
use Rattle.model.specs.Deletes.{has_id}
use Rattle.model.specs.Objects.{record_at}
use Rattle.store_abstraction.specs.declared.layout.Layout.{Layout}
use Rattle.store_abstraction.specs.Local.{StandsIn}
use Rattle.record_delete.specs.Deleting.{counts_less, shares_ended}
use Rattle.record_delete.specs.inner.Adding.{Adds, AddsThese}
use Rattle.record_delete.proofs.Adding.{on_done}
use Rattle.record_delete.proofs.AllChanges.{all_gone, taken_few, taken_so}
use Rattle.record_delete.proofs.deleting.take_records.Goals as goal

pub returns-clause-adds : goal.returns-clause-adds
returns-clause-adds g c told q t now rs s layouts gone =
    let org = c.args.org in
    let a = c.args.draft.now in
    let b = c.count_less.new.draft in
    let d = c.end_shares.new.draft in
    let e = c.remove_records.new.draft in
    let calls = c.call_laws.ensures in
    let both = c.draft_laws.ensures.both in
    let early = calls.told_first _ _ a d e c.remove_records.ensures.calls told in
    let first = both 0 0 a b d c.count_less.ensures.calls.reads c.end_shares.ensures.calls.reads early in
    let late = calls.told_then 0 _ a b e c.count_less.ensures.calls first.0 told in
    let last = both 0 _ b d e c.end_shares.ensures.calls.reads c.remove_records.ensures.calls.reads late in
    let after = subst (λ (m : Tables). StandsIn org q m (Some t)) (sym first.2) s in
    let then = subst (λ (m : Tables). StandsIn org q m (Some t)) (sym last.2) after in
    let ids = c.as_slice-gone.result.now in
    let old = c.args.changes.now.items in
    let one = c.count_less.new.changes.items in
    let two = c.end_shares.new.changes.items in
    let new = c.remove_records.new.changes.items in
    let same : ids ≡ gone_ids t rs = c.as_slice-gone.ensures ∙ gone in
    let ls = layouts ∙ sym c.as_slice-layouts.ensures in
    let each = (c.touched_laws.ensures.kept q t s.sound s.plan).each in
    let goes = subst (AllByRecursion (λ i. (has_id rs i ≡ true) × IsTrue (is_some (record_at t i)))) (sym same) (all_gone t rs each) in
    taken_so org q now t rs ids old one two new c.remove_records.result same
    (subst (AddsThese (counts_less org t ids) old one) c.in_ok-count_less.was (c.count_less.ensures.adds first.0 q t s ls))
    (subst (AddsThese (shares_ended org t ids) one two) c.in_ok-end_shares.was (c.end_shares.ensures.adds first.1 q t after))
    (c.remove_records.ensures.adds last.1 q t now rs then ls goes)

pub returns-clause-own : goal.returns-clause-own
returns-clause-own g c =
    let ids = c.as_slice-gone.result.now in
    let same = c.as_slice-gone.ensures in
    let old = c.args.changes.now.items in
    let one = c.count_less.new.changes.items in
    let two = c.end_shares.new.changes.items in
    let new = c.remove_records.new.changes.items in
    let objects = c.as_slice-layouts.result.now in
    let few = subst (λ (ls : List Layout). length ls ≤ 100) (sym c.as_slice-layouts.ensures) c.requires.few_objects in
    let first = c.in_ok-count_less.ensures.own in
    on_done _ _ c.remove_records.result c.remove_records.ensures.own (λ last.
    subst (λ (is : List (List ℕ)). (0 < length new) × Adds c.args.org (101 + 245 * length is) (length is) old new) same
    (taken_few c.args.org (length objects) (length ids) old one two new few first.0 first.1 c.in_ok-end_shares.ensures.own last))
