-- What is in the slot of a field, and the rows of one slot after the other.
use Rattle.std.proofs.Common.{◌≡◌, ℕ, zero, suc, ◌+◌, ◌<◌, ◌≤◌, Bool, cond, eqb, List, [], ◌∷◌, ◌++◌, length, Option, Some, None, refl, sym, ap, subst, ◌∙◌, arith, map}
use Rattle.std.specs.Prelude.{slice_get, slice_index_or}
use Rattle.std.specs.List.{AllByRecursion, enumerate_from, find, flat_map, range_with_len}
use Rattle.std.specs.Option.{option_map}
use Rattle.std.proofs.lemmas.Grind.{flat_map-append}
use Rattle.base_lemmas.proofs.Bools.{by_answer as pick}
use Rattle.std.proofs.lemmas.Option.{same_Some as some_is}
use Rattle.std.proofs.lemmas.List.{append-nil as append_nothing}
use Rattle.record_read.specs.Encoding.{field_of_slot, row_from}
use Rattle.store_edit.specs.Rows.{change_to, spelled}
use Rattle.formula.specs.Meaning.{value_at}
use Rattle.store_kv.specs.declared.keeper.Change.{Change as Spelled}
use Rattle.store_rows.specs.declared.data.DataRow.{DataRow}
use Rattle.store_rows.specs.Forms.{FitsForm}
use Rattle.store_rows.specs.Keys.{FitsKey}
use Rattle.store_rows.specs.Rows.{data_form}
use Rattle.model.specs.declared.record.Record.{Record}
use Rattle.record_index.specs.Changed.{slot_changes}
use Rattle.record_index.specs.Made.{entry_of, layout_entry, made_changes, values_made}
use Rattle.record_index.proofs.Turned.{all_both, then_these}
use Rattle.store_abstraction.specs.Changes.{Change}
use Rattle.store_abstraction.specs.Entries.{Entry}
use Rattle.store_abstraction.specs.declared.layout.FieldPlace.{FieldPlace}
use Rattle.store_abstraction.specs.declared.layout.Layout.{Layout}
use Rattle.base_value.specs.declared.value.Value.{Value}

-- ---- the field with a slot

abbrev is_in : ℕ → ℕ × FieldPlace → Bool
is_in s f = eqb f.1.slot s

abbrev found : ℕ → ℕ → List FieldPlace → Option (ℕ × FieldPlace)
found s k fs = find (is_in s) (enumerate_from k fs)

abbrev number_of : Option (ℕ × FieldPlace) → Option ℕ
number_of x = option_map (λ (f : ℕ × FieldPlace). f.0) x

not_before : (s number k : ℕ) (fs : List FieldPlace) → number_of (found s k fs) ≡ Some number → k ≤ number
not_before s number k [] e = absurd cc
not_before s number k (x ∷ fs) e =
    pick (eqb x.slot s) (λ b. number_of (cond b (Some (k, x)) (found s (k + 1) fs)) ≡ Some number → k ≤ number)
    (λ _ h. let same : k ≡ number = some_is k number h in omega (arith, same))
    (λ _ h. omega (arith, not_before s number (k + 1) fs h))
    e

found_at : (s number k : ℕ) (fs : List FieldPlace) → number_of (found s k fs) ≡ Some number
    → (i : ℕ) → number ≡ k + i → (f : FieldPlace) → slice_get fs i ≡ Some f → found s k fs ≡ Some (number, f)
found_at s number k [] e i at f g = absurd cc
found_at s number k (x ∷ fs) e zero at f g =
    pick (eqb x.slot s) (λ b. number_of (cond b (Some (k, x)) (found s (k + 1) fs)) ≡ Some number → cond b (Some (k, x)) (found s (k + 1) fs) ≡ Some (number, f))
    (λ _ h. let same : k ≡ number = some_is k number h in let one : x ≡ f = some_is x f g in λ t. Some (same t, one t))
    (λ _ h. absurd (omega (arith, at, not_before s number (k + 1) fs h)))
    e
found_at s number k (x ∷ fs) e (suc i) at f g =
    pick (eqb x.slot s) (λ b. number_of (cond b (Some (k, x)) (found s (k + 1) fs)) ≡ Some number → cond b (Some (k, x)) (found s (k + 1) fs) ≡ Some (number, f))
    (λ _ h. let same : k ≡ number = some_is k number h in absurd (omega (arith, at, same)))
    (λ _ h. found_at s number (k + 1) fs h i (omega (arith, at)) f g)
    e

abbrev some_entry : Entry → Option Entry
some_entry e = Some e

abbrev some_place : FieldPlace → Option FieldPlace
some_place f = Some f

pub entry_is : (l : Layout) (r : Record) (s number : ℕ) (f : FieldPlace) (v : Value) → field_of_slot l.fields s ≡ Some number → slice_get l.fields number ≡ Some f
    → value_at r.values (number + 1) ≡ v → layout_entry l r s ≡ Some (entry_of f v)
entry_is l r s number f v e g h =
    ap (option_map (λ (x : ℕ × FieldPlace). entry_of x.1 (value_at r.values (suc x.0)))) (found_at s number 0 l.fields e number (omega arith) f g)
    ∙ (let one : suc number ≡ number + 1 = omega arith in
    let w = ap (value_at r.values) one ∙ h in
    ap (λ (x : Value). some_entry (entry_of f x)) w)

-- what an index finds
pub at_is : (fs : List FieldPlace) (n : ℕ) (f : FieldPlace) → n < length fs → f ≡ slice_index_or fs n f → slice_get fs n ≡ Some f
at_is [] n f lt e = absurd (omega (arith, lt))
at_is (x ∷ fs) zero f lt e = ap (λ (y : FieldPlace). some_place y) (sym e)
at_is (x ∷ fs) (suc n) f lt e = at_is fs n f (omega (arith, lt)) e

-- ---- one slot after the other

abbrev of_slot : Layout → Record → ℕ → List Change
of_slot l r s = slot_changes l.org l.object r.id None (layout_entry l r s) s

pub range_more : (a n j : ℕ) → a + n ≡ j → range_with_len a (n + 1) ≡ range_with_len a n ++ j ∷ []
range_more a zero j e = let same : a ≡ j = omega (arith, e) in ap (λ (i : ℕ). i ∷ []) same
range_more a (suc n) j e =
    let many : suc n + 1 ≡ suc (n + 1) = omega arith in
    ap (range_with_len a) many ∙ ap (λ (is : List ℕ). a ∷ is) (range_more (a + 1) n j (omega (arith, e)))

-- one slot more
pub slots_more : (f : ℕ → List Change) (slots : ℕ) → flat_map f (range_with_len 0 (slots + 1)) ≡ flat_map f (range_with_len 0 slots) ++ f slots
slots_more f slots =
    ap (flat_map f) (range_more 0 slots slots (omega arith))
    ∙ flat_map-append f (range_with_len 0 slots) (slots ∷ [])
    ∙ ap (λ (cs : List Change). flat_map f (range_with_len 0 slots) ++ cs) (append_none (f slots))
  where
    append_none : (xs : List Change) → xs ++ [] ≡ xs
    append_none [] = refl
    append_none (x ∷ xs) = ap (λ (cs : List Change). x ∷ cs) (append_none xs)

pub values_more : (l : Layout) (r : Record) (slots : ℕ) → values_made l r (slots + 1) ≡ values_made l r slots ++ slot_changes l.org l.object r.id None (layout_entry l r slots) slots
unfolding values_made
values_more l r slots = slots_more (of_slot l r) slots

pub values_go_on : (l : Layout) (r : Record) (slot : ℕ) (start before after : List Spelled) → before ≡ start ++ map spelled (values_made l r slot)
    → after ≡ before ++ map spelled (slot_changes l.org l.object r.id None (layout_entry l r slot) slot) → after ≡ start ++ map spelled (values_made l r (slot + 1))
values_go_on l r slot start before after b a =
    then_these (values_made l r slot) (of_slot l r slot) start before after b a
    ∙ ap (λ (cs : List Change). start ++ map spelled cs) (sym (values_more l r slot))

-- keys that fit
abbrev pub AllFit : List Change → Type 0
AllFit cs = AllByRecursion (λ c. FitsKey c.0) cs

pub fits_go_on : (l : Layout) (r : Record) (slot : ℕ) → AllByRecursion (λ c. FitsKey c.0) (values_made l r slot)
    → AllByRecursion (λ c. FitsKey c.0) (slot_changes l.org l.object r.id None (layout_entry l r slot) slot) → AllByRecursion (λ c. FitsKey c.0) (values_made l r (slot + 1))
fits_go_on l r slot a b = subst AllFit (sym (values_more l r slot)) (all_both (values_made l r slot) (of_slot l r slot) a b)

pub values_begin : (l : Layout) (r : Record) (start : List Spelled) → start ≡ start ++ map spelled (values_made l r 0)
unfolding values_made
values_begin l r start = sym (append_nothing start)

pub fits_begin : (l : Layout) (r : Record) → AllByRecursion (λ c. FitsKey c.0) (values_made l r 0)
unfolding values_made
fits_begin l r = tt

-- ---- the whole record

pub made_go_on : (l : Layout) (r : Record) (row : DataRow) (start middle after : List Spelled) → row ≡ row_from l r None
    → middle ≡ start ++ spelled (change_to data_form row) ∷ [] → after ≡ middle ++ map spelled (values_made l r 48) → after ≡ start ++ map spelled (made_changes l r)
unfolding made_changes
made_go_on l r row start middle after e m a =
    then_these (change_to data_form (row_from l r None) ∷ []) (values_made l r 48) start middle after (m ∙ ap (λ (d : DataRow). start ++ spelled (change_to data_form d) ∷ []) e) a

pub made_fits : (l : Layout) (r : Record) (row : DataRow) → row ≡ row_from l r None → FitsForm data_form row → AllByRecursion (λ c. FitsKey c.0) (values_made l r 48)
    → AllByRecursion (λ c. FitsKey c.0) (made_changes l r)
unfolding made_changes
made_fits l r row e f all = ((subst (λ (d : DataRow). FitsForm data_form d) e f).0, all)
