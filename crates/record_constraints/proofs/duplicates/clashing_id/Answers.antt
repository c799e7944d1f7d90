use Rattle.std.proofs.Common.{◌≡◌, ℕ, ◌+◌, List, Option, Some, None, sym, subst}
use Rattle.std.specs.Prelude.{Result}
use Rattle.base_lemmas.proofs.Lists.{slice_get_as_read as read_there}
use Rattle.formula.specs.Meaning.{value_at}
use Rattle.store_kv.specs.Draft.{tables_of}
use Rattle.store_rows.specs.declared.fail.StoreFail.{StoreFail}
use Rattle.store_abstraction.specs.Calls.{Calls, ended}
use Rattle.store_abstraction.specs.Layouts.{FindsOf}
use Rattle.base_value.specs.declared.value.Value.{Value}
use Rattle.record_constraints.specs.inner.Clashes.{clashing_id, unique_value}
use Rattle.record_constraints.proofs.Clashing.{nothing_sought, other_calls, sought_finds, sought_is_unique}
use Rattle.record_constraints.proofs.UniqueRows.{ValueLaws}
use Rattle.record_constraints.proofs.duplicates.clashing_id.Goals as goal

pub unique_find-found-requires-clause-unique : goal.unique_find-found-requires-clause-unique
unique_find-found-requires-clause-unique g c =
    let l = c.args.layout.now in
    let number = c.args.number in
    let f = c.index-fields-number.result in
    let w = c.in-Some.value.now in
    let at = read_there l.fields c.as_slice-fields.result.now number f c.as_slice-fields.ensures c.requires.field c.index-fields-number.is in
    let sought = subst (λ (vs : List Value). Some w ≡ unique_value f (value_at vs (number + 1))) c.as_slice.ensures (rw c.in-Some.is at c.unique_value.ensures) in
    sought_is_unique l c.args.new.now.values number f c.requires.types c.requires.values at w sought

pub returns-in-None-clause-finds : goal.returns-in-None-clause-finds
returns-in-None-clause-finds g c told =
    let l = c.args.layout.now in
    let number = c.args.number in
    let f = c.index-fields-number.result in
    let laws : ValueLaws = record { fits = c.value_laws.ensures.fits; same = c.order_laws.ensures.same } in
    let at = read_there l.fields c.as_slice-fields.result.now number f c.as_slice-fields.ensures c.requires.field c.index-fields-number.is in
    let none = subst (λ (vs : List Value). None ≡ unique_value f (value_at vs (number + 1))) c.as_slice.ensures (rw c.in-None.is at c.unique_value.ensures) in
    λ q t s h. nothing_sought laws l c.args.new.now number f at (sym none) t

pub returns-in-Some-clause-finds : goal.returns-in-Some-clause-finds
returns-in-Some-clause-finds g c told =
    let m = tables_of g.K.Keeper.state c.args.draft.now in
    let l = c.args.layout.now in
    let new = c.args.new.now in
    let number = c.args.number in
    let f = c.index-fields-number.result in
    let w = c.in-Some.value.now in
    let laws : ValueLaws = record { fits = c.value_laws.ensures.fits; same = c.order_laws.ensures.same } in
    let at = read_there l.fields c.as_slice-fields.result.now number f c.as_slice-fields.ensures c.requires.field c.index-fields-number.is in
    let sought = subst (λ (vs : List Value). Some w ≡ unique_value f (value_at vs (number + 1))) c.as_slice.ensures (rw c.in-Some.is at c.unique_value.ensures) in
    subst (FindsOf l (clashing_id l new number) m) (sym c.other_than.ensures)
    (sought_finds laws l new number f at c.requires.types c.requires.values w sought m c.unique_find-found.result (c.unique_find-found.ensures.finds told))

pub returns-in-Some-clause-calls : goal.returns-in-Some-clause-calls
returns-in-Some-clause-calls g c =
    let state = g.K.Keeper.state in
    let a = c.args.draft.now in
    let b = c.unique_find-found.new.draft in
    subst (λ (r : Result (Option (List ℕ)) StoreFail). Calls state 0 (ended r) a b) (sym c.other_than.ensures)
    (other_calls state a b c.args.new.now.id c.unique_find-found.result c.unique_find-found.ensures.calls)
