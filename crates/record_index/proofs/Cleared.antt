-- How many changes there are where values of a record become null and no other changes: no reference comes.
use Rattle.std.proofs.Common.{◌≡◌, ◌⊎◌, inl, inr, ℕ, suc, ◌≤◌, Bool, true, cond, eqb, List, [], ◌++◌, length, Option, Some, None, refl, ap, subst, sym, ◌∙◌, arith, length-append}
use Rattle.std.specs.Prelude.{slice_get}
use Rattle.std.specs.List.{enumerate_from, find, range_with_len}
use Rattle.std.specs.Option.{option_and_then, option_map}
use Rattle.base_lemmas.proofs.Bools.{by_answer as pick}
use Rattle.formula.specs.Meaning.{value_at}
use Rattle.store_rows.specs.declared.data.DataRow.{DataRow}
use Rattle.store_rows.specs.Keys.{Index, Key, Relation, Unique}
use Rattle.model.specs.Cases.{in_case}
use Rattle.model.specs.Updates.{is_copied}
use Rattle.model.specs.declared.record.Record.{Record}
use Rattle.record_index.specs.Changed.{index_key, reference_key, row_turned, slot_changes, unique_key}
use Rattle.record_index.specs.Made.{entry_of}
use Rattle.record_index.specs.Turned.{copied_entry, copied_of, copied_there, turned_changes, turned_entry, values_turned}
use Rattle.record_index.proofs.CopiedEntries.{same_key}
use Rattle.record_index.proofs.Few.{flat_few, go_few, turned_few}
use Rattle.record_index.proofs.Turned.{turned_nothing}
use Rattle.store_abstraction.specs.Changes.{Change}
use Rattle.store_abstraction.specs.Entries.{Entry}
use Rattle.store_abstraction.specs.declared.layout.FieldPlace.{FieldPlace}
use Rattle.store_abstraction.specs.declared.layout.JobPlace.{JobPlace}
use Rattle.store_abstraction.specs.declared.layout.Layout.{Layout}
use Rattle.base_value.specs.Conversion.{convert}
use Rattle.base_value.specs.Values.{ref_of}
use Rattle.base_value.specs.declared.value.FieldType.{FieldType}
use Rattle.base_value.specs.declared.value.FieldType.TheVariants as type
use Rattle.base_value.specs.declared.value.Value.{Value}
use Rattle.base_value.specs.declared.value.Value.TheVariants as value

-- ---- one slot

-- the new one is none, or the old one
abbrev IsKept : Option (List ℕ) → Option (List ℕ) → Type 0
IsKept old new = (new ≡ None) ⊎ (new ≡ old)

kept_few : (make : List ℕ → Key) (row : List ℕ) (old new : Option (List ℕ)) → IsKept old new → length (row_turned make row old new) ≤ 1
kept_few make row old new (inl e) = subst (λ (x : Option (List ℕ)). length (row_turned make row old x) ≤ 1) (sym e) (go_few make row old)
kept_few make row old new (inr e) =
    let none = ap length (ap (row_turned make row old) e ∙ turned_nothing make row old old (same_key old)) in
    omega (arith, none)

slot_cleared_few : (org n : ℕ) (id : List ℕ) (e f : Option Entry) (s : ℕ) → IsKept (reference_key e) (reference_key f) → length (slot_changes org n id e f s) ≤ 5
slot_cleared_few org n id e f s kept =
    let index = row_turned (λ k. Index org n s k id) [] (index_key e) (index_key f) in
    let unique = row_turned (λ k. Unique org n s k) id (unique_key e) (unique_key f) in
    let reference = row_turned (λ k. Relation org n s k id) [] (reference_key e) (reference_key f) in
    omega (
      arith,
      length-append index (unique ++ reference),
      length-append unique reference,
      turned_few (λ k. Index org n s k id) [] (index_key e) (index_key f),
      turned_few (λ k. Unique org n s k) id (unique_key e) (unique_key f),
      kept_few (λ k. Relation org n s k id) [] (reference_key e) (reference_key f) kept,
    )

-- ---- what values refer to

-- a value is null, or as before
abbrev IsCleared : Value → Value → Type 0
IsCleared old new = (new ≡ value.Null) ⊎ (new ≡ old)

value_kept : (old new : Value) → IsCleared old new → IsKept (ref_of old) (ref_of new)
value_kept old new (inl e) = inl (ap ref_of e)
value_kept old new (inr e) = inr (ap ref_of e)

abbrev reference_in : Option Value → Option (List ℕ)
reference_in v = option_and_then ref_of v

null_converted : (to : FieldType) → reference_in (convert to value.Null) ≡ None
null_converted type.Checkbox = refl
null_converted _ = refl

converted_kept : (to : FieldType) (old new : Value) → IsCleared old new → IsKept (reference_in (convert to old)) (reference_in (convert to new))
converted_kept to old new (inl e) = inl (ap (λ (v : Value). reference_in (convert to v)) e ∙ null_converted to)
converted_kept to old new (inr e) = inr (ap (λ (v : Value). reference_in (convert to v)) e)

-- ---- what entries refer to

abbrev AreCleared : Record → Record → Type 0
AreCleared old new = (k : ℕ) → IsCleared (value_at old.values k) (value_at new.values k)

abbrev entry_made : JobPlace → FieldPlace → Option Value → Option Entry
entry_made j f v = option_map (λ v. record { kind = j.kind; value = v; indexed = f.indexed; unique = f.unique }) v

entry_refers : (j : JobPlace) (f : FieldPlace) (v : Option Value) → reference_key (entry_made j f v) ≡ reference_in v
entry_refers j f None = refl
entry_refers j f (Some v) = refl

-- a record's value in the new type, if it was copied
abbrev copy_if : JobPlace → Record → Bool → Option Value
copy_if j r b = cond b (convert j.kind (value_at r.values (suc j.field))) None

copied_kept : (l : Layout) (old new : Record) (s : ℕ) → new.id ≡ old.id → AreCleared old new → IsKept (reference_key (copied_entry l old s)) (reference_key (copied_entry l new s))
copied_kept l old new s same cleared = by l.job
  where
    in_field : (j : JobPlace) (f : FieldPlace) → IsKept (reference_key (copied_of j old f)) (reference_key (copied_of j new f))
    in_field j f =
        subst (λ (i : List ℕ). IsKept (reference_key (copied_of j old f)) (reference_key (entry_made j f (copy_if j new (is_copied j.phase j.cursor i))))) (sym same)
        (pick (is_copied j.phase j.cursor old.id) (λ b. IsKept (reference_key (entry_made j f (copy_if j old b))) (reference_key (entry_made j f (copy_if j new b))))
        (λ _.
        let a = copy_if j old true in
        let b = copy_if j new true in
        subst (λ (x : Option (List ℕ)). IsKept x (reference_key (entry_made j f b))) (sym (entry_refers j f a))
        (subst (λ (x : Option (List ℕ)). IsKept (reference_in a) x) (sym (entry_refers j f b))
        (converted_kept j.kind (value_at old.values (suc j.field)) (value_at new.values (suc j.field)) (cleared (suc j.field)))))
        (λ _. inl refl))

    at_field : (j : JobPlace) (x : Option FieldPlace) → IsKept (reference_key (option_and_then (copied_of j old) x)) (reference_key (option_and_then (copied_of j new) x))
    at_field j None = inl refl
    at_field j (Some f) = in_field j f

    by : (job : Option JobPlace)
        → IsKept (reference_key (in_case job None (λ j. cond (eqb j.twin s) (copied_there l j old) None))) (reference_key (in_case job None (λ j. cond (eqb j.twin s) (copied_there l j new) None)))
    by None = inl refl
    by (Some j) =
        pick (eqb j.twin s) (λ b. IsKept (reference_key (cond b (copied_there l j old) None)) (reference_key (cond b (copied_there l j new) None)))
        (λ _. at_field j (slice_get l.fields j.field))
        (λ _. inl refl)

abbrev in_slot : Layout → ℕ → Record → Option (ℕ × FieldPlace) → Option Entry
in_slot l s r x = in_case (option_map (λ (f : ℕ × FieldPlace). entry_of f.1 (value_at r.values (suc f.0))) x) (copied_entry l r s) Some

entry_kept : (l : Layout) (old new : Record) (s : ℕ) → new.id ≡ old.id → AreCleared old new → IsKept (reference_key (turned_entry l old s)) (reference_key (turned_entry l new s))
entry_kept l old new s same cleared = by (find (λ (f : ℕ × FieldPlace). eqb f.1.slot s) (enumerate_from 0 l.fields))
  where
    by : (x : Option (ℕ × FieldPlace)) → IsKept (reference_key (in_slot l s old x)) (reference_key (in_slot l s new x))
    by None = copied_kept l old new s same cleared
    by (Some f) = value_kept (value_at old.values (suc f.0)) (value_at new.values (suc f.0)) (cleared (suc f.0))

-- ---- the whole record

abbrev turned_slot : Layout → Record → Record → ℕ → List Change
turned_slot l old new s = slot_changes l.org l.object new.id (turned_entry l old s) (turned_entry l new s) s

pub cleared_few : (l : Layout) (kept : DataRow) (old new : Record) → new.id ≡ old.id → ((k : ℕ) → (value_at new.values k ≡ value.Null) ⊎ (value_at new.values k ≡ value_at old.values k))
    → length (turned_changes l kept old new) ≤ 245
unfolding turned_changes values_turned
cleared_few l kept old new same cleared =
    let few : length (values_turned l old new 48) ≤ 240 =
    flat_few 5 (turned_slot l old new) (λ s. slot_cleared_few l.org l.object new.id (turned_entry l old s) (turned_entry l new s) s (entry_kept l old new s same cleared)) (range_with_len 0 48)
    in
    omega (arith, few)
