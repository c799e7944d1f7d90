-- The rows of a record whose values change, as changes, by the layout of its object. While a change of a field's type copies
-- values, a record that it has come to has the value in the new type beside the old one, and so both change.
use Rattle.std.specs.Prelude.{ℕ, suc, Bool, true, not, ◌&&◌, ◌||◌, ◌==◌, if◌then◌else◌, List, ◌∷◌, Option, Some, None, slice_get, slice_set}
use Rattle.std.specs.List.{flat_map, range_with_len}
use Rattle.std.specs.Option.{option_and_then, option_map}
use Rattle.record_read.specs.Encoding.{row_from}
use Rattle.store_edit.specs.Rows.{change_to}
use Rattle.formula.specs.Meaning.{value_at}
use Rattle.store_rows.specs.Rows.{data_form}
use Rattle.store_rows.specs.declared.data.DataRow.{DataRow}
use Rattle.model.specs.Cases.{in_case}
use Rattle.model.specs.RuleFormulas.{is_copy}
use Rattle.model.specs.Updates.{is_copied}
use Rattle.model.specs.declared.record.Record.{Record}
use Rattle.record_index.specs.Changed.{slot_changes}
use Rattle.record_index.specs.Made.{layout_entry}
use Rattle.store_abstraction.specs.Changes.{Change}
use Rattle.store_abstraction.specs.Entries.{Entry, entry_text}
use Rattle.store_abstraction.specs.Plan.{slot_count}
use Rattle.store_abstraction.specs.declared.layout.FieldPlace.{FieldPlace}
use Rattle.store_abstraction.specs.declared.layout.JobPlace.{JobPlace}
use Rattle.store_abstraction.specs.declared.layout.Layout.{Layout}
use Rattle.base_value.specs.Conversion.{convert, convertible}
use Rattle.base_value.specs.Types.{is_type}
use Rattle.base_value.specs.declared.value.Value.{Value}

-- ---- what a change has copied

-- the new type is within its bounds, and the field's converts to it, as long as values are copied
abbrev pub converts_to : JobPlace → FieldPlace → Bool
converts_to j f = not (is_copy j.phase) || (is_type j.kind && convertible f.kind j.kind)

abbrev pub converts : Layout → Bool
converts l = in_case l.job true (λ j. in_case (slice_get l.fields j.field) true (converts_to j))

-- the value of the change's field in the new type, of a record that the change has come to
abbrev pub copied_value : JobPlace → Record → Option Value
copied_value j r = if is_copied j.phase j.cursor r.id then convert j.kind (value_at r.values (suc j.field)) else None

abbrev pub copied_of : JobPlace → Record → FieldPlace → Option Entry
copied_of j r f = option_map (λ v. record { kind = j.kind; value = v; indexed = f.indexed; unique = f.unique }) (copied_value j r)

abbrev pub copied_there : Layout → JobPlace → Record → Option Entry
copied_there l j r = option_and_then (copied_of j r) (slice_get l.fields j.field)

-- the same, where it is this slot
abbrev pub copied_entry : Layout → Record → (slot : ℕ) → Option Entry
copied_entry l r s = in_case l.job None (λ j. if j.twin == s then copied_there l j r else None)

-- ---- the rows of the values

-- what is in a slot and may change: the value of the field whose slot it is, and else what was copied
abbrev pub turned_entry : Layout → Record → (slot : ℕ) → Option Entry
turned_entry l r s = in_case (layout_entry l r s) (copied_entry l r s) Some

-- the rows in the first slots
unfoldable pub values_turned : Layout → (old new : Record) → (slots : ℕ) → List Change
values_turned l old new slots =
    flat_map (λ s. slot_changes l.org l.object new.id (turned_entry l old s) (turned_entry l new s) s) (range_with_len 0 slots)

-- ---- the whole record

-- a row with another text in a slot
abbrev pub with_text : (slot : ℕ) → Option (List ℕ) → DataRow → DataRow
with_text s text row = record row { slots = slice_set row.slots s text }

-- the row that was kept, with the text of what was copied
abbrev pub with_copied : Layout → Record → DataRow → DataRow
with_copied l r kept =
    in_case l.job kept (λ j. if is_copied j.phase j.cursor r.id then with_text j.twin (entry_text (copied_there l j r)) kept else kept)

-- the new row: slots of no field are as they were kept
abbrev pub turned_row : Layout → (kept : DataRow) → Record → DataRow
turned_row l kept r = row_from l r (Some (with_copied l r kept))

-- all rows
unfoldable pub turned_changes : Layout → (kept : DataRow) → (old new : Record) → List Change
turned_changes l kept old new = change_to data_form (turned_row l kept new) ∷ values_turned l old new slot_count
