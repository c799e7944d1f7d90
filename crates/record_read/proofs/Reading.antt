-- The row of a sound record reads as that record.
use Rattle.std.proofs.Common.{◌≡◌, ℕ, zero, suc, ◌+◌, Bool, true, ◌&&◌, IsTrue, List, [], ◌∷◌, map, Option, Some, refl, ap, ◌∙◌, subst, arith}
use Rattle.std.specs.Prelude.{slice_get}
use Rattle.std.specs.List.{enumerate_from, list_all}
use Rattle.base_lemmas.proofs.Bools.{and_first as and_left, and_second as and_right}
use Rattle.formula.specs.Meaning.{value_at}
use Rattle.store_codec.specs.Plain.{◌>>=◌}
use Rattle.model.specs.declared.record.Record.{Record}
use Rattle.model.specs.Membership.{Has}
use Rattle.model.specs.Objects.{is_of, object_numbered}
use Rattle.model.specs.Sound.{IsSound}
use Rattle.model.specs.SoundRecords.{all_valid, kinds_of}
use Rattle.model.specs.Tenant.{Field, Object, Tenant}
use Rattle.store_abstraction.specs.Entries.{data_of, entry_text, name_text, slot_entry, slot_text, slots_of}
use Rattle.store_abstraction.specs.Layouts.{layout_of, place_of}
use Rattle.store_abstraction.specs.Plan.{FitsPlan, OrgPlan}
use Rattle.base_value.specs.Types.{is_type}
use Rattle.base_value.specs.Values.{valid}
use Rattle.base_value.specs.declared.value.FieldType.{FieldType}
use Rattle.base_value.specs.declared.value.FieldType.TheVariants as type
use Rattle.base_value.specs.declared.value.Value.{Value}
use Rattle.record_read.specs.Decoding.{each_from, has_types, kinds_in, read_slot, record_from, value_from}
use Rattle.record_read.proofs.Slots.{entry_at, slot_at, slot_below}
use Rattle.record_read.proofs.Sound.{fields_typed, values_valid}
use Rattle.record_read.proofs.Texts.{PrintsBack, name_back, slot_back}

abbrev Slots : Type 0
Slots = List (Option (List ℕ))

-- each field's slot has the text of its value
abbrev HasTexts : OrgPlan → (n : ℕ) → Slots → ℕ → List Field → List Value → Type 0
HasTexts p n slots k fs vs = (i m : ℕ) (f : Field) (v : Value) → k + i ≡ m → slice_get fs i ≡ Some f → slice_get vs i ≡ Some v → slice_get slots (p.slot n m) ≡ Some (slot_text v)

values_back : PrintsBack → (p : OrgPlan) (n : ℕ) (slots : Slots) (k : ℕ) (fs : List Field) (vs : List Value)
    → all_valid (map (λ f. f.kind) fs) vs ≡ true → list_all (λ f. is_type f.kind) fs ≡ true → HasTexts p n slots k fs vs
    → each_from (value_from slots) (map (place_of p n) (enumerate_from k fs)) ≡ Some vs
values_back prints p n slots k [] [] valids types texts = refl
values_back prints p n slots k [] (v ∷ vs) valids types texts = absurd cc
values_back prints p n slots k (f ∷ fs) [] valids types texts = absurd cc
values_back prints p n slots k (f ∷ fs) (v ∷ vs) valids types texts =
    let kind = f.kind in
    let here : slice_get slots (p.slot n k) ≡ Some (slot_text v) = texts 0 k f v (omega arith) refl refl in
    let back : read_slot f.kind (slot_text v) ≡ Some v = slot_back prints f.kind v (and_left (is_type f.kind) (list_all (λ f. is_type f.kind) fs) types) (and_left (valid f.kind v) (all_valid (map (λ f. f.kind) fs) vs) valids) in
    let rest : each_from (value_from slots) (map (place_of p n) (enumerate_from (k + 1) fs)) ≡ Some vs =
    values_back prints p n slots (k + 1) fs vs (and_right (valid f.kind v) (all_valid (map (λ f. f.kind) fs) vs) valids) (and_right (is_type f.kind) (list_all (λ f. is_type f.kind) fs) types)
    (λ i m g w e at is. texts (suc i) m g w (omega (arith, e)) at is)
    in
    rw (here, back, rest) refl

named_back : PrintsBack → (p : OrgPlan) (n : ℕ) (slots : Slots) (o : Object) (values : List Value)
    → all_valid (kinds_of o) values ≡ true → list_all (λ f. is_type f.kind) o.fields ≡ true
    → ((i : ℕ) (f : Field) → slice_get o.fields i ≡ Some f → slice_get slots (p.slot n i) ≡ Some (slot_text (value_at values (suc i))))
    → (read_slot (type.Text 80) (name_text (value_at values 0)) >>= λ v. each_from (value_from slots) (map (place_of p n) (enumerate_from 0 o.fields)) >>= λ vs. Some (v ∷ vs)) ≡ Some values
named_back prints p n slots o [] valids types texts = absurd cc
named_back prints p n slots o (v ∷ vs) valids types texts =
    rw (
      name_back prints v (and_left (valid (type.Text 80) v) (all_valid (map (λ f. f.kind) o.fields) vs) valids),
      values_back prints p n slots 0 o.fields vs (and_right (valid (type.Text 80) v) (all_valid (map (λ f. f.kind) o.fields) vs) valids) types
          (λ i m f w e at is. let same : i ≡ m = omega (arith, e) in subst (λ (j : ℕ). slice_get slots (p.slot n j) ≡ Some (slot_text w)) same (texts i f at ∙ ap (λ (x : Value). Some (slot_text x)) (value_got vs i w is))),
    )
    refl
  where
    value_got : (ws : List Value) (i : ℕ) (w : Value) → slice_get ws i ≡ Some w → value_at ws i ≡ w
    value_got [] i w e = absurd cc
    value_got (x ∷ ws) zero w e = cc
    value_got (x ∷ ws) (suc i) w e = value_got ws i w e

layout_kinds : (p : OrgPlan) (n k : ℕ) (fs : List Field) → map (λ f. f.kind) (map (place_of p n) (enumerate_from k fs)) ≡ map (λ f. f.kind) fs
layout_kinds p n k [] = refl
layout_kinds p n k (f ∷ fs) = ap (λ (ks : List FieldType). f.kind ∷ ks) (layout_kinds p n (k + 1) fs)

-- the types of a layout are those of its object
pub object_kinds : (org n : ℕ) (p : OrgPlan) (t : Tenant) (o : Object) → kinds_in (layout_of org p t (record { number = n; object = o })).fields ≡ kinds_of o
object_kinds org n p t o = ap (λ (ks : List FieldType). type.Text 80 ∷ ks) (layout_kinds p n 0 o.fields)

layout_typed : (p : OrgPlan) (n k : ℕ) (fs : List Field) → list_all (λ f. is_type f.kind) (map (place_of p n) (enumerate_from k fs)) ≡ list_all (λ f. is_type f.kind) fs
layout_typed p n k [] = refl
layout_typed p n k (f ∷ fs) = ap (λ (b : Bool). is_type f.kind && b) (layout_typed p n (k + 1) fs)

pub object_typed : (org n : ℕ) (p : OrgPlan) (t : Tenant) (o : Object) → IsSound t → object_numbered t n ≡ Some o → IsTrue (has_types (layout_of org p t (record { number = n; object = o })))
object_typed org n p t o sound is = layout_typed p n 0 o.fields ∙ fields_typed t n o sound is

pub row_reads : PrintsBack → (org n : ℕ) (p : OrgPlan) (t : Tenant) (o : Object) (r : Record)
    → IsSound t → FitsPlan p t → object_numbered t n ≡ Some o → Has t.records r → IsTrue (is_of n r)
    → record_from (layout_of org p t (record { number = n; object = o })) (data_of org n r (slot_entry p t.job n o r)) ≡ Some r
row_reads prints org n p t o r sound fits is has of =
    let types = fields_typed t n o sound is in
    let E = slot_entry p t.job n o r in
    let values =
    named_back prints p n (slots_of E) o r.values (values_valid t n o r sound is has of) types
    (λ i f at. slot_at E (p.slot n i) (slot_below p t n o i f fits is at) ∙ ap (λ x. Some (entry_text x)) (entry_at p t n o r i f fits is at))
    in
    rw (layout_typed p n 0 o.fields, types, values) refl
