-- A record without the lookups to what goes, by the layout of its object.
use Rattle.std.specs.Prelude.{ℕ, zero, suc, ℤ, Bool, false, ◌&&◌, if◌then◌else◌, List, map, Option, None, slice_get}
use Rattle.std.specs.List.{enumerate_from}
use Rattle.model.specs.Cases.{in_case}
use Rattle.model.specs.declared.record.Record.{Record}
use Rattle.model.specs.Deletes.{is_cleared}
use Rattle.model.specs.Fields.{ref_of}
use Rattle.store_abstraction.specs.declared.layout.FieldPlace.{FieldPlace}
use Rattle.store_abstraction.specs.declared.layout.Layout.{Layout}
use Rattle.record_index.specs.diff.Touched.{has}
use Rattle.base_value.specs.declared.value.Value.{Value}
use Rattle.base_value.specs.declared.value.Value.TheVariants as value

-- the field whose value is at this position of a record's: the name's is at 0, and those of the fields follow
abbrev pub field_at : List FieldPlace → (position : ℕ) → Option FieldPlace
field_at fields zero = None
field_at fields (suc n) = slice_get fields n

-- a value names one of these
abbrev pub names_one : (ids : List (List ℕ)) → Value → Bool
names_one ids v = in_case (ref_of v) false (has ids)

-- the value at this position is that of a lookup which is cleared, and names one of these
abbrev pub is_lost : List FieldPlace → (ids : List (List ℕ)) → (position : ℕ) → Value → Bool
is_lost fields ids p v = in_case (field_at fields p) false (λ f. is_cleared f.kind && names_one ids v)

-- what is left of a value at its position
abbrev pub value_left : List FieldPlace → (ids : List (List ℕ)) → ℕ × Value → Value
value_left fields ids v = if is_lost fields ids v.0 v.1 then value.Null else v.1

-- the record without its lookups to these; it is modified now
abbrev pub cleared_in : Layout → ℤ → (ids : List (List ℕ)) → Record → Record
cleared_in l now ids r = record r { modified = now; values = map (value_left l.fields ids) (enumerate_from 0 r.values) }
