-- The row that is made of a record over the row of another, where a change of a field's type has the same for both.
use Rattle.std.proofs.Common.{◌≡◌, ℕ, suc, ◌<◌, true, ◌&&◌, cond, eqb, IsTrue, Option, Some, None, refl, ap, arith, eqb-true}
use Rattle.std.specs.Prelude.{slice_get, slice_index_or}
use Rattle.std.specs.List.{list_all}
use Rattle.std.specs.Option.{option_and_then, option_map}
use Rattle.std.proofs.lemmas.List.FromFn.{get_or-map-range_with_len}
use Rattle.base_lemmas.proofs.Lists.{map-range_with_len_same as same_below}
use Rattle.base_lemmas.proofs.Bools.{by_answer as pick}
use Rattle.base_value.specs.Printing.{is_printable}
use Rattle.base_value.specs.declared.value.Value.{Value}
use Rattle.formula.specs.Meaning.{value_at}
use Rattle.model.specs.declared.record.Record.{Record}
use Rattle.model.specs.Cases.{in_case}
use Rattle.model.specs.Tenant.{Field, Job, Object, Tenant}
use Rattle.store_abstraction.specs.Entries.{Entry, data_of, entry_text, field_entry, job_entry, job_value, other_entry, slot_entry, slot_field, slots_of}
use Rattle.store_abstraction.specs.Layouts.{layout_of}
use Rattle.store_abstraction.specs.Plan.{OrgPlan, slot_count, type_there}
use Rattle.record_read.specs.Encoding.{row_from, text_of_slot, texts_of_slots, value_text}
use Rattle.record_read.proofs.Writing.{number_same, value_printable}

-- what the row that tables have of a record has in a slot
kept_is : (entries : ℕ → Option Entry) (s : ℕ) → s < slot_count → slice_index_or (slots_of entries) s None ≡ entry_text (entries s)
unfolding slots_of
kept_is entries s lt = get_or-map-range_with_len (λ i. entry_text (entries i)) 0 slot_count s s None lt (omega arith)

field_same : (p : OrgPlan) (j : Job) (q r : Record) → job_value p j j.phase q ≡ job_value p j j.phase r → (x : Option Field) → option_and_then (job_entry p j q) x ≡ option_and_then (job_entry p j r) x
field_same p j q r e None = refl
field_same p j q r e (Some f) = ap (option_map {U = Entry} (λ (v : Value). record { kind = type_there p j; value = v; indexed = f.indexed; unique = f.unique })) e

other_same : (p : OrgPlan) (n : ℕ) (o : Object) (q r : Record) (s : ℕ) (job : Option Job)
    → ((j : Job) → job ≡ Some j → j.object ≡ n → job_value p j j.phase q ≡ job_value p j j.phase r) → other_entry p job n o q s ≡ other_entry p job n o r s
other_same p n o q r s None same = refl
other_same p n o q r s (Some j) same =
    pick (eqb j.object n)
    (λ b. cond (b && eqb p.other s) (option_and_then (job_entry p j q) (slice_get o.fields j.field)) None ≡ cond (b && eqb p.other s) (option_and_then (job_entry p j r) (slice_get o.fields j.field)) None)
    (λ is. ap (λ (x : Option Entry). cond (eqb p.other s) x None) (field_same p j q r (same j refl (eqb-true j.object n is)) (slice_get o.fields j.field)))
    (λ _. refl)

text_same : (org n : ℕ) (p : OrgPlan) (t : Tenant) (o : Object) (q r : Record) (s : ℕ) → s < slot_count
    → ((j : Job) → t.job ≡ Some j → j.object ≡ n → job_value p j j.phase q ≡ job_value p j j.phase r) → list_all is_printable r.values ≡ true
    → text_of_slot (layout_of org p t (record { number = n; object = o })) r (Some (data_of org n q (slot_entry p t.job n o q))) s ≡ entry_text (slot_entry p t.job n o r s)
unfolding slot_entry
text_same org n p t o q r s lt same printable = rw (number_same p n s 0 o.fields, kept_is (slot_entry p t.job n o q) s lt) (by (slot_field p n o.fields s))
  where
    by : (x : Option (ℕ × Field))
        → in_case (option_map (λ (f : ℕ × Field). f.0) x) (entry_text (in_case x (other_entry p t.job n o q s) (λ f. Some (field_entry q f)))) (λ f. value_text (value_at r.values (suc f)))
        ≡ entry_text (in_case x (other_entry p t.job n o r s) (λ f. Some (field_entry r f)))
    by None = ap entry_text (other_same p n o q r s t.job same)
    by (Some f) = rw (value_printable r.values (suc f.0) printable) refl

pub row_rewritten : (org n : ℕ) (p : OrgPlan) (t : Tenant) (o : Object) (q r : Record)
    → ((j : Job) → t.job ≡ Some j → j.object ≡ n → job_value p j j.phase q ≡ job_value p j j.phase r) → IsTrue (list_all is_printable r.values)
    → row_from (layout_of org p t (record { number = n; object = o })) r (Some (data_of org n q (slot_entry p t.job n o q))) ≡ data_of org n r (slot_entry p t.job n o r)
unfolding slots_of texts_of_slots
row_rewritten org n p t o q r same printable =
    rw
    (same_below (text_of_slot (layout_of org p t (record { number = n; object = o })) r (Some (data_of org n q (slot_entry p t.job n o q)))) (λ s. entry_text (slot_entry p t.job n o r s)) 0 slot_count
    (λ s lt. text_same org n p t o q r s (omega (arith, lt)) same printable))
    refl
