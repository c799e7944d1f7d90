-- The rows of references in a field's slot: there is one exactly for each record that refers to the target by the field.
use Rattle.std.proofs.Common.{◌≡◌, ℕ, zero, suc, ◌+◌, cond, List, [], ◌∷◌, map, add-one, Option, Some, None, refl, sym, ap, subst, ◌∙◌, arith, bytes_eq}
use Rattle.std.specs.Prelude.{false, slice_get}
use Rattle.std.specs.List.{enumerate_from}
use Rattle.std.specs.Option.{option_and_then, option_map}
use Rattle.std.proofs.lemmas.Option.{same_Some as some_is}
use Rattle.base_lemmas.proofs.Numbers.{eqb-self as eqb_same}
use Rattle.base_lemmas.proofs.Bools.{by_answer as pick}
use Rattle.formula.specs.Meaning.{value_at}
use Rattle.store_rows.specs.Keys.{Relation}
use Rattle.model.specs.declared.record.Record.{Record}
use Rattle.model.specs.Cases.{in_case}
use Rattle.model.specs.Fields.{ref_of}
use Rattle.model.specs.Objects.{is_of, object_numbered, record_at}
use Rattle.model.specs.Tenant.{Field, Tenant}
use Rattle.store_abstraction.specs.declared.layout.FieldPlace.{FieldPlace}
use Rattle.store_abstraction.specs.declared.layout.Layout.{Layout}
use Rattle.store_abstraction.specs.Entries.{field_entry, is_reference_to, slot_entry}
use Rattle.store_abstraction.specs.Layouts.{place_of}
use Rattle.store_abstraction.specs.Local.{rows_alone}
use Rattle.store_abstraction.specs.Plan.{FitsPlan, OrgPlan}
use Rattle.store_abstraction.specs.Stands.{kept_at, kept_in, row_in, row_where}
use Rattle.record_read.proofs.Slots.{entry_at}
use Rattle.record_read.proofs.Standing.{IsOf, of_object}
use Rattle.record_references.specs.Referring.{refers_by}

-- the field of an object that has a place in its layout
field_at : (p : OrgPlan) (n k : ℕ) (fs : List Field) (i m : ℕ) (x : FieldPlace) → k + i ≡ m → slice_get (map (place_of p n) (enumerate_from k fs)) i ≡ Some x
    → (f : Field) × (slice_get fs i ≡ Some f) × (place_of p n (m, f) ≡ x)
field_at p n k [] i m x e h = absurd cc
field_at p n k (f ∷ fs) zero m x e h =
    let same : k ≡ m = omega (arith, e) in
    (f, refl, ap (λ (j : ℕ). place_of p n (j, f)) (sym same) ∙ some_is (place_of p n (k, f)) x h)
field_at p n k (f ∷ fs) (suc i) m x e h = field_at p n (k + 1) fs i m x (omega (arith, e)) h

-- an empty row for a record that refers to the target
abbrev pub row_for : (number : ℕ) → (target : List ℕ) → Record → Option (List ℕ)
row_for number target r = cond (refers_by number target r) (Some []) None

module _ (q : OrgPlan) (t : Tenant) (l : Layout) (one : IsOf q t l) (plan : FitsPlan q t) (number : ℕ) (f : FieldPlace) (at : slice_get l.fields number ≡ Some f) (target : List ℕ) where
  -- the field with this place
  pub its : (g : Field) × (slice_get one.object.fields number ≡ Some g) × (place_of q l.object (number, g) ≡ f)
  its = field_at q l.object 0 one.object.fields number number f (omega arith) (subst (λ (k : Layout). slice_get k.fields number ≡ Some f) (sym one.made) at)

  -- in the slot is the value of this field, and no other
  its_entry : (r : Record) → slot_entry q t.job l.object one.object r f.slot ≡ Some (field_entry r (number, its.0))
  its_entry r =
      subst (λ (s : ℕ). slot_entry q t.job l.object one.object r s ≡ Some (field_entry r (number, its.0))) (ap (λ (x : FieldPlace). x.slot) its.2)
      (entry_at q t l.object one.object r number its.0 plan one.there its.1)

  same_test : (r : Record) → is_reference_to target (slot_entry q t.job l.object one.object r f.slot) ≡ refers_by number target r
  same_test r =
      ap (is_reference_to target) (its_entry r)
      ∙ ap (λ (k : ℕ). in_case (ref_of (value_at r.values k)) false (bytes_eq target)) (sym (add-one number))

  row_kept : (id : List ℕ) → row_in q t (Relation l.org l.object f.slot target id) ≡ option_and_then (row_for number target) (of_object l.object (record_at t id))
  unfolding row_in kept_at
  row_kept id = by (record_at t id)
    where
      by : (x : Option Record)
          → row_where (is_reference_to target) f.slot (option_and_then (λ r. cond (is_of l.object r) (option_map (λ o. kept_in q t l.object o r) (object_numbered t l.object)) None) x)
          ≡ option_and_then (row_for number target) (of_object l.object x)
      by None = refl
      by (Some r) =
          rw one.there
          (pick (is_of l.object r)
          (λ b. row_where (is_reference_to target) f.slot (cond b (Some (kept_in q t l.object one.object r)) None) ≡ option_and_then (row_for number target) (cond b (Some r) None))
          (λ _. ap (λ b. cond {A = Option (List ℕ)} b (Some []) None) (same_test r))
          (λ _. refl))

  -- the row at the key of a record's reference: one exactly if the record is the object's, and refers to the target
  pub row_there : (id : List ℕ) → rows_alone l.org q (Some t) (Relation l.org l.object f.slot target id) ≡ option_and_then (row_for number target) (of_object l.object (record_at t id))
  row_there id = ap (λ b. cond b (row_in q t (Relation l.org l.object f.slot target id)) None) (eqb_same l.org) ∙ row_kept id
