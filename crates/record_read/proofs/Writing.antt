-- The row that is made of a record is the one that tables have of it.
use Rattle.std.proofs.Common.{◌≡◌, ℕ, zero, suc, ◌+◌, true, ◌&&◌, cond, eqb, eqb-true, IsTrue, List, [], ◌∷◌, map, Option, Some, None, refl}
use Rattle.std.specs.List.{enumerate_from, find, list_all}
use Rattle.std.specs.Prelude.{slice_get}
use Rattle.std.specs.Option.{option_and_then, option_map}
use Rattle.base_lemmas.proofs.Bools.{and_first as and_left, and_second as and_right, by_answer as pick}
use Rattle.formula.specs.Meaning.{value_at}
use Rattle.model.specs.declared.record.Record.{Record}
use Rattle.model.specs.Cases.{in_case}
use Rattle.model.specs.Tenant.{Field, Job, Object, Tenant}
use Rattle.store_abstraction.specs.Entries.{Entry, data_of, entry_text, field_entry, job_entry, job_value, other_entry, slot_entry, slot_field, slots_of}
use Rattle.store_abstraction.specs.Layouts.{layout_of, place_of}
use Rattle.store_abstraction.specs.Plan.{OrgPlan, slot_count}
use Rattle.store_abstraction.specs.declared.layout.FieldPlace.{FieldPlace}
use Rattle.base_value.specs.Printing.{is_printable}
use Rattle.base_value.specs.declared.value.Value.{Value}
use Rattle.record_read.specs.Encoding.{row_from, text_of_slot, texts_of_slots, value_text}
use Rattle.record_read.proofs.Lists.{same_range}

-- the number of a field is that of its place in the layout
pub number_same : (p : OrgPlan) (n s k : ℕ) (fs : List Field)
    → option_map (λ (f : ℕ × FieldPlace). f.0) (find (λ (f : ℕ × FieldPlace). eqb f.1.slot s) (enumerate_from k (map (place_of p n) (enumerate_from k fs))))
    ≡ option_map (λ (f : ℕ × Field). f.0) (find (λ (f : ℕ × Field). eqb (p.slot n f.0) s) (enumerate_from k fs))
number_same p n s k [] = refl
number_same p n s k (f ∷ fs) =
    pick (eqb (p.slot n k) s)
    (λ b. option_map (λ (f : ℕ × FieldPlace). f.0) (cond b (Some (k, place_of p n (k, f))) (find (λ (f : ℕ × FieldPlace). eqb f.1.slot s) (enumerate_from (k + 1) (map (place_of p n) (enumerate_from (k + 1) fs)))))
    ≡ option_map (λ (f : ℕ × Field). f.0) (cond b (Some (k, f)) (find (λ (f : ℕ × Field). eqb (p.slot n f.0) s) (enumerate_from (k + 1) fs))))
    (λ _. refl)
    (λ _. number_same p n s (k + 1) fs)

pub value_printable : (values : List Value) (i : ℕ) → list_all is_printable values ≡ true → is_printable (value_at values i) ≡ true
value_printable [] i h = refl
value_printable (v ∷ vs) zero h = and_left (is_printable v) (list_all is_printable vs) h
value_printable (v ∷ vs) (suc i) h = value_printable vs i (and_right (is_printable v) (list_all is_printable vs) h)

-- a change that has no value for the record has nothing in its slot
entry_none : (p : OrgPlan) (j : Job) (r : Record) → job_value p j j.phase r ≡ None → (x : Option Field) → option_and_then (job_entry p j r) x ≡ None
entry_none p j r e None = refl
entry_none p j r e (Some f) = rw e refl

nothing_other : (p : OrgPlan) (n : ℕ) (o : Object) (r : Record) (s : ℕ) (job : Option Job) → ((j : Job) → job ≡ Some j → j.object ≡ n → job_value p j j.phase r ≡ None)
    → other_entry p job n o r s ≡ None
nothing_other p n o r s None none = refl
nothing_other p n o r s (Some j) none =
    pick (eqb j.object n)
    (λ b. cond (b && eqb p.other s) (option_and_then (job_entry p j r) (slice_get o.fields j.field)) None ≡ None)
    (λ is. rw (entry_none p j r (none j refl (eqb-true j.object n is)) (slice_get o.fields j.field)) (pick (eqb p.other s) (λ b. cond {A = Option Entry} b None None ≡ None) (λ _. refl) (λ _. refl)))
    (λ _. refl)

text_same : (org n : ℕ) (p : OrgPlan) (t : Tenant) (o : Object) (r : Record) (s : ℕ)
    → ((j : Job) → t.job ≡ Some j → j.object ≡ n → job_value p j j.phase r ≡ None) → list_all is_printable r.values ≡ true
    → text_of_slot (layout_of org p t (record { number = n; object = o })) r None s ≡ entry_text (slot_entry p t.job n o r s)
unfolding slot_entry
text_same org n p t o r s none printable = rw (number_same p n s 0 o.fields) (by (slot_field p n o.fields s))
  where
    by : (x : Option (ℕ × Field)) → in_case (option_map (λ (f : ℕ × Field). f.0) x) None (λ f. value_text (value_at r.values (suc f))) ≡ entry_text (in_case x (other_entry p t.job n o r s) (λ f. Some (field_entry r f)))
    by None = rw (nothing_other p n o r s t.job none) refl
    by (Some f) = rw (value_printable r.values (suc f.0) printable) refl

pub row_made : (org n : ℕ) (p : OrgPlan) (t : Tenant) (o : Object) (r : Record)
    → ((j : Job) → t.job ≡ Some j → j.object ≡ n → job_value p j j.phase r ≡ None) → IsTrue (list_all is_printable r.values)
    → row_from (layout_of org p t (record { number = n; object = o })) r None ≡ data_of org n r (slot_entry p t.job n o r)
unfolding slots_of texts_of_slots
row_made org n p t o r none printable =
    rw (same_range (text_of_slot (layout_of org p t (record { number = n; object = o })) r None) (λ s. entry_text (slot_entry p t.job n o r s)) 0 slot_count (λ s. text_same org n p t o r s none printable)) refl
