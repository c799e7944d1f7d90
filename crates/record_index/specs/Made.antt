-- The rows of a new record, as changes, by the layout of its object.
use Rattle.std.specs.Prelude.{ℕ, suc, ◌==◌, List, ◌∷◌, Option, None}
use Rattle.std.specs.List.{enumerate_from, find, flat_map, range_with_len}
use Rattle.std.specs.Option.{option_map}
use Rattle.record_read.specs.Encoding.{row_from}
use Rattle.store_edit.specs.Rows.{change_to}
use Rattle.formula.specs.Meaning.{value_at}
use Rattle.store_rows.specs.Rows.{data_form}
use Rattle.model.specs.declared.record.Record.{Record}
use Rattle.record_index.specs.Changed.{slot_changes}
use Rattle.store_abstraction.specs.Changes.{Change}
use Rattle.store_abstraction.specs.Entries.{Entry}
use Rattle.store_abstraction.specs.Plan.{slot_count}
use Rattle.store_abstraction.specs.declared.layout.FieldPlace.{FieldPlace}
use Rattle.store_abstraction.specs.declared.layout.Layout.{Layout}
use Rattle.base_value.specs.declared.value.Value.{Value}

-- a value of a field, as it is in a slot
abbrev pub entry_of : FieldPlace → Value → Entry
entry_of f v = record { kind = f.kind; value = v; indexed = f.indexed; unique = f.unique }

-- what is in a slot of a record: the value of the field whose slot it is
abbrev pub layout_entry : Layout → Record → (slot : ℕ) → Option Entry
layout_entry l r s =
    option_map (λ (f : ℕ × FieldPlace). entry_of f.1 (value_at r.values (suc f.0)))
    (find (λ (f : ℕ × FieldPlace). f.1.slot == s) (enumerate_from 0 l.fields))

-- the rows of the values in the first slots
unfoldable pub values_made : Layout → Record → (slots : ℕ) → List Change
values_made l r slots = flat_map (λ s. slot_changes l.org l.object r.id None (layout_entry l r s) s) (range_with_len 0 slots)

-- all rows of a new record
unfoldable pub made_changes : Layout → Record → List Change
made_changes l r = change_to data_form (row_from l r None) ∷ values_made l r slot_count
