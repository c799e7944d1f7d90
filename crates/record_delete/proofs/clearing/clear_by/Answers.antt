use Rattle.std.proofs.Common.{◌≡◌, ◌∙◌, ◌⊎◌, ℕ, List, Some, ap, subst, sym, w64}
use Rattle.std.specs.Prelude.{Ok, ℤ}
use Rattle.std.proofs.lemmas.Int.{to_z-of_z}
use Rattle.std.proofs.lemmas.Option.{same_Some as some_is}
use Rattle.record_read.specs.Decoding.{kinds_in}
use Rattle.formula.specs.Meaning.{value_at}
use Rattle.model.specs.declared.record.Record.{Record}
use Rattle.model.specs.Objects.{record_at}
use Rattle.store_abstraction.specs.Changes.{Change}
use Rattle.base_value.specs.declared.value.Value.TheVariants as value
use Rattle.record_delete.specs.inner.Adding.{AddsThese}
use Rattle.record_delete.specs.inner.Clearing.{cleared_in}
use Rattle.record_delete.proofs.Cleared.{all_printable, left_or_null}
use Rattle.record_delete.proofs.Doing.{turned_clears}
use Rattle.record_delete.proofs.RecordRows.{turned_are}
use Rattle.record_delete.proofs.There.{calls_out, found_kept}
use Rattle.record_delete.proofs.clearing.clear_by.Goals as goal

pub returns-clause-adds : goal.returns-clause-adds
returns-clause-adds g c told q t u r s its there objects job after =
    let l = c.args.layout.now in
    let id = c.args.id.now in
    let k = c.in_ok-kept.kept in
    let new = c.in_ok-new.new in
    let is = subst (λ (z : ℤ). new ≡ cleared_in l z c.args.gone.now k.item) (to_z-of_z w64 c.args.now c.ranges.now) c.in_ok-new.ensures.is in
    let ensures = c.in_ok-changed_record_changes.ensures in
    let kept = found_kept q t l id c.record_there.result k (c.record_there.ensures.finds told q t s its) c.in_ok-kept.was in
    let same : k.item ≡ r = some_is k.item r (sym kept.is ∙ there) in
    let found : record_at u id ≡ Some new = after ∙ (ap (λ (x : Record). Some (cleared_in l c.args.now c.args.gone.now x)) (sym same) ∙ ap (λ (x : Record). Some x) (sym is)) in
    let printable = all_printable c.value_laws.ensures.printable (kinds_in l.fields) new.values c.in_ok-new.ensures.valid in
    subst (λ (cs : List Change). AddsThese {X = Unit {0}} cs c.args.changes.now.items c.changed_record_changes.new.changes.items (Ok tt))
    (turned_are q t l id k its kept c.pivot_laws.ensures.turned u new objects job (ap (λ (x : Record). x.id) is) printable found) (ensures.changes, ensures.fits)

pub returns-clause-own : goal.returns-clause-own
returns-clause-own g c =
    let l = c.args.layout.now in
    let k = c.in_ok-kept.kept in
    let new = c.in_ok-new.new in
    let is = subst (λ (z : ℤ). new ≡ cleared_in l z c.args.gone.now k.item) (to_z-of_z w64 c.args.now c.ranges.now) c.in_ok-new.ensures.is in
    let laws = c.pivot_laws.ensures in
    let ensures = c.in_ok-changed_record_changes.ensures in
    let left = subst (λ (x : Record). (j : ℕ) → (value_at x.values j ≡ value.Null) ⊎ (value_at x.values j ≡ value_at k.item.values j)) (sym is) (left_or_null l c.args.now c.args.gone.now k.item) in
    turned_clears l k.row k.item new (laws.cleared_few l k.row k.item new (ap (λ (x : Record). x.id) is) left) (laws.turned_gone l k.row k.item new) c.args.changes.now.items c.changed_record_changes.new.changes.items ensures.changes ensures.fits

pub returns-in_err-changed_record_changes-clause-calls : goal.returns-in_err-changed_record_changes-clause-calls
returns-in_err-changed_record_changes-clause-calls g c =
    let failed = c.from_residual-in_err-changed_record_changes in
    calls_out g.K.Keeper.state c.call_laws.ensures.weaker 1 c.args.draft.now c.record_there.new.draft failed.result failed.ensures.1 c.in_ok-kept.ensures.calls
