-- The rows of a record that goes, as changes, by the layout of its object. Beside the values of its fields it may have one more in
-- the slot of a change of a field's type: what the change has copied, or what it has left and not yet cleared.
use Rattle.std.specs.Prelude.{ℕ, Bool, false, ◌==◌, if◌then◌else◌, List, ◌∷◌, Option, Some, None, slice_get, slice_index_or}
use Rattle.std.specs.List.{flat_map, range_with_len}
use Rattle.std.specs.Option.{option_and_then, option_map}
use Rattle.store_rows.specs.Keys.{Data}
use Rattle.store_rows.specs.declared.data.DataRow.{DataRow}
use Rattle.model.specs.Cases.{in_case}
use Rattle.model.specs.Jobs.{is_past}
use Rattle.model.specs.declared.record.Record.{Record}
use Rattle.record_index.specs.Changed.{slot_changes}
use Rattle.record_index.specs.Made.{layout_entry}
use Rattle.record_index.specs.Turned.{copied_value}
use Rattle.store_abstraction.specs.Changes.{Change}
use Rattle.store_abstraction.specs.Entries.{Entry}
use Rattle.store_abstraction.specs.Plan.{slot_count}
use Rattle.store_abstraction.specs.declared.layout.FieldPlace.{FieldPlace}
use Rattle.store_abstraction.specs.declared.layout.JobPlace.{JobPlace}
use Rattle.store_abstraction.specs.declared.layout.Layout.{Layout}
use Rattle.base_value.specs.Conversion.{where_read}
use Rattle.base_value.specs.Reading.{read_value}
use Rattle.base_value.specs.Types.{is_type}
use Rattle.base_value.specs.declared.job.Phase.{Phase}
use Rattle.base_value.specs.declared.job.Phase.TheVariants as phase
use Rattle.base_value.specs.declared.value.FieldType.{FieldType}
use Rattle.base_value.specs.declared.value.Value.{Value}

-- ---- what a change has beside the fields

-- the change clears what it left, and hasn't come as far as this id
abbrev pub is_left : Phase → (cursor : Option (List ℕ)) → List ℕ → Bool
is_left phase.Clear cursor id = is_past cursor id
is_left _ cursor id = false

-- the value that a text reads as, if it does; nothing reads in a type that isn't within its bounds
abbrev pub text_value : FieldType → List ℕ → Option Value
text_value kind text = if is_type kind then where_read (read_value kind text) else None

-- what the row that is kept has in the change's slot; no text is no value
abbrev pub left_value : JobPlace → (kept : DataRow) → Option Value
left_value j kept = option_and_then (text_value j.kind) (slice_index_or kept.slots j.twin None)

-- what the change has of a record: what is left, and else what was copied
abbrev pub beside_value : JobPlace → (kept : DataRow) → Record → Option Value
beside_value j kept r = if is_left j.phase j.cursor r.id then left_value j kept else copied_value j r

abbrev pub beside_of : JobPlace → (kept : DataRow) → Record → FieldPlace → Option Entry
beside_of j kept r f = option_map (λ v. record { kind = j.kind; value = v; indexed = f.indexed; unique = f.unique }) (beside_value j kept r)

abbrev pub beside_there : Layout → JobPlace → (kept : DataRow) → Record → Option Entry
beside_there l j kept r = option_and_then (beside_of j kept r) (slice_get l.fields j.field)

-- the same, where it is this slot
abbrev pub beside_entry : Layout → (kept : DataRow) → Record → (slot : ℕ) → Option Entry
beside_entry l kept r s = in_case l.job None (λ j. if j.twin == s then beside_there l j kept r else None)

-- ---- the rows of the values

-- what is in a slot: the value of the field whose slot it is, and else what the change has
abbrev pub removed_entry : Layout → (kept : DataRow) → Record → (slot : ℕ) → Option Entry
removed_entry l kept r s = in_case (layout_entry l r s) (beside_entry l kept r s) Some

-- the rows in the first slots
unfoldable pub values_removed : Layout → (kept : DataRow) → (old : Record) → (slots : ℕ) → List Change
values_removed l kept old slots =
    flat_map (λ s. slot_changes l.org l.object old.id (removed_entry l kept old s) None s) (range_with_len 0 slots)

-- ---- the whole record

-- all rows
unfoldable pub removed_changes : Layout → (kept : DataRow) → (old : Record) → List Change
removed_changes l kept old = (Data l.org l.object old.id, None) ∷ values_removed l kept old slot_count
