-- What is put of a new record is what differs where it comes.
use Rattle.std.proofs.Common.{◌≡◌, ℕ, suc, cond, IsTrue, List, [], ◌∷◌, ◌++◌, Option, Some, None, refl, sym, ap, ap₂, ◌∙◌}
use Rattle.std.specs.List.{flat_map, list_all, range_with_len}
use Rattle.std.specs.Option.{option_and_then, option_map}
use Rattle.record_read.specs.Encoding.{row_from}
use Rattle.formula.specs.Meaning.{value_at}
use Rattle.store_rows.specs.declared.data.DataRow.{DataRow}
use Rattle.store_rows.specs.Forms.{row_bytes}
use Rattle.store_rows.specs.Keys.{Data}
use Rattle.store_rows.specs.Rows.{data_form}
use Rattle.model.specs.declared.record.Record.{Record}
use Rattle.model.specs.Cases.{in_case}
use Rattle.model.specs.Objects.{is_of, object_numbered, record_at}
use Rattle.model.specs.Tenant.{Field, Job, Object, Tenant}
use Rattle.record_index.specs.Changed.{record_changes, slot_changes}
use Rattle.record_index.specs.Made.{entry_of, layout_entry, made_changes, values_made}
use Rattle.record_index.proofs.SlotEntries.{found_same, nothing_there}
use Rattle.store_abstraction.specs.Changes.{Change}
use Rattle.store_abstraction.specs.Entries.{Entry, data_of, field_entry, job_value, other_entry, slot_entry, slot_field}
use Rattle.store_abstraction.specs.Layouts.{layout_of, place_of}
use Rattle.store_abstraction.specs.Plan.{OrgPlan, slot_count}
use Rattle.store_abstraction.specs.Stands.{kept_at, kept_in}
use Rattle.store_abstraction.specs.declared.layout.FieldPlace.{FieldPlace}
use Rattle.base_value.specs.Printing.{is_printable}

-- what the layout says is in a slot is what the plan says
pub entry_same : (org n : ℕ) (p : OrgPlan) (t : Tenant) (o : Object) (r : Record) (s : ℕ) → ((j : Job) → t.job ≡ Some j → j.object ≡ n → job_value p j j.phase r ≡ None)
    → layout_entry (layout_of org p t (record { number = n; object = o })) r s ≡ slot_entry p t.job n o r s
unfolding slot_entry
entry_same org n p t o r s none = ap (option_map of_place) (found_same p n s 0 o.fields) ∙ by (slot_field p n o.fields s)
  where
    of_place : ℕ × FieldPlace → Entry
    of_place f = entry_of f.1 (value_at r.values (suc f.0))

    by : (x : Option (ℕ × Field)) → option_map of_place (option_map {U = ℕ × FieldPlace} (λ (f : ℕ × Field). (f.0, place_of p n f)) x) ≡ in_case x (other_entry p t.job n o r s) (λ f. Some (field_entry r f))
    by None = sym (nothing_there p n o r s t.job none)
    by (Some f) = refl

pub flat_same : {A : Type 0} (f g : ℕ → List A) → ((s : ℕ) → f s ≡ g s) → (ss : List ℕ) → flat_map f ss ≡ flat_map g ss
flat_same f g h [] = refl
flat_same f g h (s ∷ ss) = ap₂ (λ x y. x ++ y) (h s) (flat_same f g h ss)

pub kept_is : (p : OrgPlan) (t : Tenant) (n : ℕ) (o : Object) (r : Record) → IsTrue (is_of n r) → record_at t r.id ≡ Some r → object_numbered t n ≡ Some o → kept_at p t n r.id ≡ Some (kept_in p t n o r)
unfolding kept_at
kept_is p t n o r of at here =
    ap (option_and_then (λ (x : Record). cond (is_of n x) (option_map (λ o. kept_in p t n o x) (object_numbered t n)) None)) at
    ∙ ap (λ b. cond b (option_map (λ o. kept_in p t n o r) (object_numbered t n)) None) of
    ∙ ap (option_map (λ (o : Object). kept_in p t n o r)) here

-- what `record_read` says of the row that is made of a record
abbrev pub RowMade : Type 0
RowMade = (org n : ℕ) (p : OrgPlan) (t : Tenant) (o : Object) (r : Record) → ((j : Job) → t.job ≡ Some j → j.object ≡ n → job_value p j j.phase r ≡ None) → IsTrue (list_all is_printable r.values)
    → row_from (layout_of org p t (record { number = n; object = o })) r None ≡ data_of org n r (slot_entry p t.job n o r)

comes : RowMade → (org n : ℕ) (p : OrgPlan) (t : Tenant) (o : Object) (r : Record) → ((j : Job) → t.job ≡ Some j → j.object ≡ n → job_value p j j.phase r ≡ None) → IsTrue (list_all is_printable r.values)
    → made_changes (layout_of org p t (record { number = n; object = o })) r ≡ record_changes org n r.id None (Some (kept_in p t n o r))
unfolding made_changes values_made record_changes
comes row_made org n p t o r none printable =
    ap₂ (λ (d : DataRow) (cs : List Change). (Data org n r.id, Some (row_bytes data_form d)) ∷ cs) (row_made org n p t o r none printable)
    (flat_same (λ s. slot_changes org n r.id None (layout_entry (layout_of org p t (record { number = n; object = o })) r s) s) (λ s. slot_changes org n r.id None (slot_entry p t.job n o r s) s)
    (λ s. ap (λ e. slot_changes org n r.id None e s) (entry_same org n p t o r s none)) (range_with_len 0 slot_count))

pub made_is : RowMade → (org n : ℕ) (p : OrgPlan) (t : Tenant) (o : Object) (r : Record) → ((j : Job) → t.job ≡ Some j → j.object ≡ n → job_value p j j.phase r ≡ None) → IsTrue (list_all is_printable r.values)
    → IsTrue (is_of n r) → record_at t r.id ≡ Some r → object_numbered t n ≡ Some o
    → made_changes (layout_of org p t (record { number = n; object = o })) r ≡ record_changes org n r.id None (kept_at p t n r.id)
made_is row_made org n p t o r none printable of at here = comes row_made org n p t o r none printable ∙ ap (record_changes org n r.id None) (sym (kept_is p t n o r of at here))
