-- A copied value is valid for the new type, which is no reference, and so its text has a spelling.
use Rattle.std.proofs.Common.{◌≡◌, ℕ, zero, suc, true, false, not, ◌&&◌, ◌||◌, cond, List, [], ◌∷◌, set, Option, Some, None, refl, sym, ap, subst, ◌∙◌}
use Rattle.std.specs.Prelude.{IfSome, Ok, ok_or, slice_get}
use Rattle.std.specs.List.{AllByRecursion}
use Rattle.std.proofs.lemmas.List.{length-set}
use Rattle.std.proofs.lemmas.List.Elements.{All-from_recursion, recursion_from_All}
use Rattle.base_lemmas.proofs.Bools.{and_first as and_left, and_second as and_right, by_answer as pick}
use Rattle.record_read.specs.Decoding.{has_types, kinds_in}
use Rattle.record_read.proofs.Fits.{PrintsShort, value_fits}
use Rattle.record_read.proofs.RowFits.{ConvertsValid}
use Rattle.formula.specs.Meaning.{value_at}
use Rattle.store_rows.specs.declared.data.DataRow.{DataRow}
use Rattle.store_rows.specs.Forms.{FitsForm}
use Rattle.store_rows.specs.Rows.{data_form}
use Rattle.model.specs.RuleFormulas.{is_copy}
use Rattle.model.specs.SoundRecords.{all_valid}
use Rattle.model.specs.Updates.{is_copied}
use Rattle.model.specs.declared.record.Record.{Record}
use Rattle.store_codec.specs.Plain.{FitsText}
use Rattle.record_index.specs.Turned.{converts, converts_to, copied_value, with_text}
use Rattle.record_index.proofs.CopiedEntries.{copies}
use Rattle.record_index.proofs.TurnedValues.{field_converts, field_typed, field_valid, value_missing, value_there}
use Rattle.store_abstraction.specs.Entries.{slot_text}
use Rattle.store_abstraction.specs.declared.layout.FieldPlace.{FieldPlace}
use Rattle.store_abstraction.specs.declared.layout.JobPlace.{JobPlace}
use Rattle.store_abstraction.specs.declared.layout.Layout.{Layout}
use Rattle.base_value.specs.Conversion.{convert, convertible}
use Rattle.base_value.specs.Types.{is_reference, is_type}
use Rattle.base_value.specs.Values.{valid}
use Rattle.base_value.specs.declared.fail.ConvertFail.TheVariants as fail
use Rattle.base_value.specs.declared.job.Phase.{Phase}
use Rattle.base_value.specs.declared.value.FieldType.{FieldType}
use Rattle.base_value.specs.declared.value.FieldType.TheVariants as type
use Rattle.base_value.specs.declared.value.Value.{Value}
use Rattle.base_value.specs.declared.value.Value.TheVariants as value

-- ---- types

-- no type converts to a reference
plain_type : (from to : FieldType) → convertible from to ≡ true → is_reference to ≡ false
plain_type (type.Lookup object on_delete) to e = absurd cc
plain_type (type.Master object) to e = absurd cc
plain_type from (type.Lookup object on_delete) e = absurd cc
plain_type from (type.Master object) e = absurd cc
plain_type from to e = refl

-- a change that has copied a value converts its field's type to the new one
pub converting_to : (j : JobPlace) (f : FieldPlace) (id : List ℕ) → converts_to j f ≡ true → is_copied j.phase j.cursor id ≡ true → (is_type j.kind && convertible f.kind j.kind) ≡ true
converting_to j f id h copied = subst (λ (ph : Phase). (not (is_copy ph) || (is_type j.kind && convertible f.kind j.kind)) ≡ true) (copies j.phase j.cursor id copied) h

pub type_to : (j : JobPlace) (f : FieldPlace) (id : List ℕ) → converts_to j f ≡ true → is_copied j.phase j.cursor id ≡ true → is_type j.kind ≡ true
type_to j f id h copied = and_left (is_type j.kind) (convertible f.kind j.kind) (converting_to j f id h copied)

pub from_to : (j : JobPlace) (f : FieldPlace) (id : List ℕ) → converts_to j f ≡ true → is_copied j.phase j.cursor id ≡ true → convertible f.kind j.kind ≡ true
from_to j f id h copied = and_right (is_type j.kind) (convertible f.kind j.kind) (converting_to j f id h copied)

-- ---- a copied value

pub record IsCopy (kind : FieldType) (v : Value) : Type 0 where
  pub typed : is_type kind ≡ true
  pub plain : is_reference kind ≡ false
  pub valued : valid kind v ≡ true

pub copied_is : ConvertsValid → (j : JobPlace) (f : FieldPlace) (r : Record) (v : Value) → is_type f.kind ≡ true → valid f.kind (value_at r.values (suc j.field)) ≡ true → converts_to j f ≡ true
    → Some v ≡ copied_value j r → IsCopy j.kind v
copied_is valids j f r v typed valued h is =
    pick (is_copied j.phase j.cursor r.id)
    (λ b. is_copied j.phase j.cursor r.id ≡ b → Some v ≡ cond b (convert j.kind (value_at r.values (suc j.field))) None → IsCopy j.kind v)
    (λ _ copied e. record {
      typed = type_to j f r.id h copied;
      plain = plain_type f.kind j.kind (from_to j f r.id h copied);
      valued = valids f.kind j.kind (value_at r.values (suc j.field)) v typed valued (sym e);
    })
    (λ _ _ e. absurd cc)
    refl is

pub copied_in : ConvertsValid → (l : Layout) (j : JobPlace) (f : FieldPlace) (r : Record) (v : Value) → has_types l ≡ true → all_valid (kinds_in l.fields) r.values ≡ true → converts l ≡ true
    → l.job ≡ Some j → slice_get l.fields j.field ≡ Some f → Some v ≡ copied_value j r → IsCopy j.kind v
copied_in valids l j f r v types values h job at is =
    copied_is valids j f r v (field_typed l j.field f types at) (field_valid l r.values j.field f values at) (field_converts l j f h job at) is

pub copy_fits : PrintsShort → (kind : FieldType) (v : Value) → IsCopy kind v → IfSome (slot_text v) FitsText
copy_fits prints kind v h = value_fits prints kind v h.typed h.valued

-- ---- what `convert` and `get` give

pub given_is : (x : Option Value) (v : Value) → ok_or x fail.NotConvertible ≡ Ok v → Some v ≡ x
given_is None v e = absurd cc
given_is (Some w) v e = cc

pub place_there : (l : Layout) (i k : ℕ) (f : FieldPlace) → k ≡ i → Some f ≡ slice_get l.fields k → slice_get l.fields i ≡ Some f
place_there l i k f same e = ap (slice_get l.fields) (sym same) ∙ sym e

pub missing_valid : (kind : FieldType) (vs : List Value) (i k : ℕ) → k ≡ suc i → None ≡ slice_get vs k → valid kind (value_at vs (suc i)) ≡ true → valid kind value.Null ≡ true
missing_valid kind vs i k same e h = sym (ap (valid kind) (value_missing vs (suc i) (ap (slice_get vs) (sym same) ∙ sym e))) ∙ h

pub there_valid : (kind : FieldType) (vs : List Value) (i k : ℕ) (v : Value) → k ≡ suc i → Some v ≡ slice_get vs k → valid kind (value_at vs (suc i)) ≡ true → valid kind v ≡ true
there_valid kind vs i k v same e h = sym (ap (valid kind) (value_there vs (suc i) v (ap (slice_get vs) (sym same) ∙ sym e))) ∙ h

copied_by : (j : JobPlace) (r : Record) (v : Value) → is_copied j.phase j.cursor r.id ≡ true → value_at r.values (suc j.field) ≡ v → convert j.kind v ≡ copied_value j r
copied_by j r v copied e =
    sym (ap (λ b. cond b (convert j.kind (value_at r.values (suc j.field))) None) copied ∙ ap (convert j.kind) e)

pub missing_copied : (j : JobPlace) (r : Record) (k : ℕ) → is_copied j.phase j.cursor r.id ≡ true → k ≡ suc j.field → None ≡ slice_get r.values k → convert j.kind value.Null ≡ copied_value j r
missing_copied j r k copied same e = copied_by j r value.Null copied (value_missing r.values (suc j.field) (ap (slice_get r.values) (sym same) ∙ sym e))

pub there_copied : (j : JobPlace) (r : Record) (k : ℕ) (v : Value) → is_copied j.phase j.cursor r.id ≡ true → k ≡ suc j.field → Some v ≡ slice_get r.values k → convert j.kind v ≡ copied_value j r
there_copied j r k v copied same e = copied_by j r v copied (value_there r.values (suc j.field) v (ap (slice_get r.values) (sym same) ∙ sym e))

-- ---- a row with another text

abbrev FitsSlot : Option (List ℕ) → Type 0
FitsSlot x = IfSome x FitsText

set_fits : (xs : List (Option (List ℕ))) (s : ℕ) (x : Option (List ℕ)) → AllByRecursion FitsSlot xs → FitsSlot x → AllByRecursion FitsSlot (set xs s x)
set_fits [] s x h f = h
set_fits (y ∷ ys) zero x h f = (f, h.1)
set_fits (y ∷ ys) (suc s) x h f = (h.0, set_fits ys s x h.1 f)

pub text_fits : (s : ℕ) (x : Option (List ℕ)) (row : DataRow) → FitsForm data_form row → IfSome x FitsText → FitsForm data_form (with_text s x row)
text_fits s x row h f =
    let slots = h.1.1.1.1.1 in
    let texts = All-from_recursion FitsSlot (set row.slots s x) (set_fits row.slots s x (recursion_from_All FitsSlot row.slots slots.1) f) in
    (h.0, (h.1.0, (h.1.1.0, (h.1.1.1.0, (h.1.1.1.1.0, (length-set row.slots s x ∙ slots.0, texts))))))

abbrev pub some_text : List ℕ → Option (List ℕ)
some_text x = Some x
