-- The row of a sound record fits its form: its texts are short.
use Rattle.std.proofs.Common.{◌≡◌, ℕ, ◌≤◌, true, false, IsTrue, List, length, refl, sym, ap, ◌∙◌, arith, eqb-true}
use Rattle.std.specs.Prelude.{◌==◌, IfSome, codes}
use Rattle.std.specs.List.{list_all}
use Rattle.std.specs.Str.{all_scalars}
use Rattle.std.proofs.lemmas.Str.{IsUtf8-from_ascii, chars-IsAscii, scalars-chars}
use Rattle.base_lemmas.proofs.Lists.{length-encodes as four_each}
use Rattle.base_lemmas.proofs.Bools.{and_first as and_left}
use Rattle.base_value.specs.Id.{is_digit62, is_id}
use Rattle.base_value.specs.Printing.{print_value}
use Rattle.base_value.specs.Types.{is_type}
use Rattle.base_value.specs.Values.{valid}
use Rattle.base_value.specs.declared.value.FieldType.{FieldType}
use Rattle.base_value.specs.declared.value.FieldType.TheVariants as type
use Rattle.base_value.specs.declared.value.Value.{Value}
use Rattle.base_value.specs.declared.value.Value.TheVariants as value
use Rattle.store_codec.specs.Plain.{FitsText}
use Rattle.store_abstraction.specs.Entries.{name_text, slot_text}
use Rattle.record_read.proofs.Ids.{id_ascii}

-- what `base_value` says of the texts that are printed of valid values
pub record PrintsShort : Type 0 where
  pub short : (kind : FieldType) (v : Value) → IsTrue (is_type kind) → IsTrue (valid kind v) → length (print_value v) ≤ 255
  pub scalars : (kind : FieldType) (v : Value) → IsTrue (is_type kind) → IsTrue (valid kind v) → IsTrue (all_scalars (print_value v))

short_fits : (cs : List ℕ) → length cs ≤ 255 → all_scalars cs ≡ true → FitsText cs
short_fits cs short scalars = (omega (arith, four_each cs, short), scalars)

id_fits : (kind : FieldType) (id : List ℕ) → valid kind (value.Ref id) ≡ true → is_id id ≡ true
id_fits (type.Lookup object on_delete) id h = h
id_fits (type.Master object) id h = h
id_fits _ id h = absurd cc

id_text_fits : (id : List ℕ) → is_id id ≡ true → FitsText id
id_text_fits id h =
    let size : length id ≡ 15 = eqb-true (length id) 15 (and_left (length id == 15) (list_all is_digit62 id) h) in
    let ascii = id_ascii id h in
    short_fits id (omega (arith, size)) (ap all_scalars (sym (chars-IsAscii id ascii)) ∙ scalars-chars id (IsUtf8-from_ascii id ascii))

module _ (prints : PrintsShort) where
  printed_fits : (kind : FieldType) (v : Value) → is_type kind ≡ true → valid kind v ≡ true → FitsText (print_value v)
  printed_fits kind v t h = short_fits (print_value v) (prints.short kind v t h) (prints.scalars kind v t h)

  -- the text of a valid value has a spelling
  pub value_fits : (kind : FieldType) (v : Value) → is_type kind ≡ true → valid kind v ≡ true → IfSome (slot_text v) FitsText
  value_fits kind value.Null t h = tt
  value_fits kind (value.Text cs) t h = printed_fits kind (value.Text cs) t h
  value_fits kind (value.Num z) t h = printed_fits kind (value.Num z) t h
  value_fits kind (value.Bool true) t h = short_fits (codes "1") (omega arith) refl
  value_fits kind (value.Bool false) t h = tt
  value_fits kind (value.Day day) t h = printed_fits kind (value.Day day) t h
  value_fits kind (value.Moment second) t h = printed_fits kind (value.Moment second) t h
  value_fits kind (value.Ref id) t h = id_text_fits id (id_fits kind id h)

  pub name_fits : (v : Value) → valid (type.Text 80) v ≡ true → IfSome (name_text v) FitsText
  name_fits (value.Text cs) h = printed_fits (type.Text 80) (value.Text cs) refl h
  name_fits _ h = tt
