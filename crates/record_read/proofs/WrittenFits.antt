-- The row that is made of a record fits its form, where the record's values are valid for the layout's types.
use Rattle.std.proofs.Common.{◌≡◌, ℕ, zero, suc, true, cond, eqb, IsTrue, List, [], ◌∷◌, map, Option, Some, None, refl, subst, arith, w64}
use Rattle.std.specs.Prelude.{FitsSigned, IfSome, slice_get, slice_index_or}
use Rattle.std.specs.List.{AllByRecursion, enumerate_from, find, range_with_len}
use Rattle.std.specs.Option.{option_map}
use Rattle.std.proofs.lemmas.List.Elements.{All-from_recursion, recursion_from_All}
use Rattle.std.proofs.lemmas.List.FromFn.{length-map-range_with_len}
use Rattle.base_lemmas.proofs.Bools.{and_first as and_left, and_second as and_right, by_answer as pick}
use Rattle.base_lemmas.proofs.Lists.{find-enumerate_from as found_at}
use Rattle.base_value.specs.Id.{is_id}
use Rattle.base_value.specs.Printing.{is_printable}
use Rattle.base_value.specs.Values.{valid}
use Rattle.base_value.specs.declared.value.FieldType.{FieldType}
use Rattle.base_value.specs.declared.value.FieldType.TheVariants as type
use Rattle.base_value.specs.declared.value.Value.{Value}
use Rattle.formula.specs.Meaning.{value_at}
use Rattle.store_rows.specs.declared.data.DataRow.{DataRow}
use Rattle.store_rows.specs.Forms.{FitsForm}
use Rattle.store_rows.specs.Keys.{record_key}
use Rattle.store_rows.specs.Rows.{data_form}
use Rattle.model.specs.declared.record.Record.{Record}
use Rattle.model.specs.Cases.{in_case}
use Rattle.model.specs.SoundRecords.{all_valid}
use Rattle.store_codec.specs.Plain.{FitsText}
use Rattle.store_codec.specs.Shapes.{FitsIn}
use Rattle.store_abstraction.specs.declared.layout.FieldPlace.{FieldPlace}
use Rattle.store_abstraction.specs.declared.layout.Layout.{Layout}
use Rattle.store_abstraction.specs.Entries.{slot_text}
use Rattle.store_abstraction.specs.Plan.{slot_count}
use Rattle.record_read.specs.Decoding.{has_types, kinds_in}
use Rattle.record_read.specs.Encoding.{kept_text, row_from, text_of_slot, texts_of_slots, value_text}
use Rattle.record_read.proofs.Fits.{PrintsShort, name_fits, value_fits}
use Rattle.record_read.proofs.RecordFits.{each_range}
use Rattle.record_read.proofs.RowFits.{typed_at, valid_at}

abbrev FitsSlot : Option (List ℕ) → Type 0
FitsSlot x = IfSome x FitsText

at_slot : (xs : List (Option (List ℕ))) (s : ℕ) → AllByRecursion FitsSlot xs → FitsSlot (slice_index_or xs s None)
at_slot [] s h = tt
at_slot (x ∷ xs) zero h = h.0
at_slot (x ∷ xs) (suc s) h = at_slot xs s h.1

kept_fits : (kept : Option DataRow) (s : ℕ) → IfSome kept (FitsForm data_form) → FitsSlot (kept_text kept s)
kept_fits None s h = tt
kept_fits (Some row) s h = at_slot row.slots s (recursion_from_All FitsSlot row.slots h.1.1.1.1.1.1)

written_fits : (v : Value) → FitsSlot (slot_text v) → FitsSlot (value_text v)
written_fits v h = pick (is_printable v) (λ b. FitsSlot (cond b (slot_text v) None)) (λ _. h) (λ _. tt)

field_fits : PrintsShort → (l : Layout) (values : List Value) (i : ℕ) (f : FieldPlace) → has_types l ≡ true → all_valid (kinds_in l.fields) values ≡ true → slice_get l.fields i ≡ Some f → FitsSlot (value_text (value_at values (suc i)))
field_fits prints l [] i f types valids at = absurd cc
field_fits prints l (v ∷ vs) i f types valids at =
    written_fits (value_at vs i)
    (value_fits prints f.kind (value_at vs i) (typed_at (λ (x : FieldPlace). x.kind) l.fields i f types at)
    (valid_at (λ (x : FieldPlace). x.kind) l.fields vs i f (and_right (valid (type.Text 80) v) (all_valid (map (λ f. f.kind) l.fields) vs) valids) at))

text_fits : PrintsShort → (l : Layout) (r : Record) (kept : Option DataRow) (s : ℕ) → has_types l ≡ true → all_valid (kinds_in l.fields) r.values ≡ true → IfSome kept (FitsForm data_form) → FitsSlot (text_of_slot l r kept s)
text_fits prints l r kept s types valids h = by (find (λ (f : ℕ × FieldPlace). eqb f.1.slot s) (enumerate_from 0 l.fields)) refl
  where
    by : (x : Option (ℕ × FieldPlace)) → find (λ (f : ℕ × FieldPlace). eqb f.1.slot s) (enumerate_from 0 l.fields) ≡ x
        → FitsSlot (in_case (option_map (λ (f : ℕ × FieldPlace). f.0) x) (kept_text kept s) (λ f. value_text (value_at r.values (suc f))))
    by None e = kept_fits kept s h
    by (Some f) e =
        let (i, number, at) = found_at (λ (g : ℕ × FieldPlace). eqb g.1.slot s) 0 l.fields f e in
        let same : i ≡ f.0 = omega (arith, number) in
        subst (λ (n : ℕ). FitsSlot (value_text (value_at r.values (suc n)))) same (field_fits prints l r.values i f.1 types valids at)

first_valid : (ks : List FieldType) (values : List Value) → all_valid (type.Text 80 ∷ ks) values ≡ true → valid (type.Text 80) (value_at values 0) ≡ true
first_valid ks [] h = absurd cc
first_valid ks (v ∷ vs) h = and_left (valid (type.Text 80) v) (all_valid ks vs) h

pub row_from_fits : PrintsShort → (l : Layout) (r : Record) (kept : Option DataRow) → FitsIn record_key (l.org, (l.object, r.id)) → IfSome r.owner (λ i. IsTrue (is_id i)) → FitsSigned w64 r.created → FitsSigned w64 r.modified
    → has_types l ≡ true → all_valid (kinds_in l.fields) r.values ≡ true → IfSome kept (FitsForm data_form) → FitsForm data_form (row_from l r kept)
unfolding texts_of_slots
row_from_fits prints l r kept key owner created modified types valids h =
    let texts =
    All-from_recursion FitsSlot (map (text_of_slot l r kept) (range_with_len 0 slot_count)) (each_range FitsSlot (text_of_slot l r kept) 0 slot_count (λ s. text_fits prints l r kept s types valids h))
    in (
      key,
      (name_fits prints (value_at r.values 0) (first_valid (map (λ f. f.kind) l.fields) r.values valids), (owner, (created, (modified, (length-map-range_with_len (text_of_slot l r kept) 0 slot_count, texts))))),
    )
