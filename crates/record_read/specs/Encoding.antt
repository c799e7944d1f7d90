-- The row of a record, by the layout of its object.
-- Source: as in Decoding.
use Rattle.std.specs.Prelude.{ℕ, suc, ◌==◌, if◌then◌else◌, List, map, Option, None, slice_index_or}
use Rattle.std.specs.List.{enumerate_from, find, range_with_len}
use Rattle.std.specs.Option.{option_and_then, option_map}
use Rattle.base_value.specs.Printing.{is_printable}
use Rattle.base_value.specs.declared.value.Value.{Value}
use Rattle.formula.specs.Meaning.{value_at}
use Rattle.store_rows.specs.declared.data.DataRow.{DataRow}
use Rattle.model.specs.declared.record.Record.{Record}
use Rattle.model.specs.Cases.{in_case}
use Rattle.store_abstraction.specs.Entries.{name_text, slot_text}
use Rattle.store_abstraction.specs.Plan.{slot_count}
use Rattle.store_abstraction.specs.declared.layout.FieldPlace.{FieldPlace}
use Rattle.store_abstraction.specs.declared.layout.Layout.{Layout}

-- the number of the field with this slot
abbrev pub field_of_slot : List FieldPlace → (slot : ℕ) → Option ℕ
field_of_slot fields s = option_map (λ (f : ℕ × FieldPlace). f.0) (find (λ (f : ℕ × FieldPlace). f.1.slot == s) (enumerate_from 0 fields))

-- the text of a value, which a day or a moment outside the years 0001 to 9999 doesn't have
abbrev pub value_text : Value → Option (List ℕ)
value_text v = if is_printable v then slot_text v else None

-- what a row has in a slot
abbrev pub kept_text : Option DataRow → (slot : ℕ) → Option (List ℕ)
kept_text kept s = option_and_then (λ row. slice_index_or row.slots s None) kept

-- the text of the value of the field whose slot it is, and else what another row has there
abbrev pub text_of_slot : Layout → Record → Option DataRow → (slot : ℕ) → Option (List ℕ)
text_of_slot l r kept s = in_case (field_of_slot l.fields s) (kept_text kept s) (λ f. value_text (value_at r.values (suc f)))

-- what is in each slot
unfoldable pub texts_of_slots : Layout → Record → Option DataRow → List (Option (List ℕ))
texts_of_slots l r kept = map (text_of_slot l r kept) (range_with_len 0 slot_count)

abbrev pub row_from : Layout → Record → Option DataRow → DataRow
row_from l r kept =
    record {
      org = l.org;
      object = l.object;
      id = r.id;
      name = name_text (value_at r.values 0);
      owner = r.owner;
      created = r.created;
      modified = r.modified;
      slots = texts_of_slots l r kept;
    }
