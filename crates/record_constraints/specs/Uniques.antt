-- Values of unique fields, by a layout.
use Rattle.std.specs.Prelude.{ℕ, Bool, false, ◌&&◌, slice_get, IsTrue}
use Rattle.model.specs.Cases.{in_case}
use Rattle.store_abstraction.specs.declared.layout.FieldPlace.{FieldPlace}
use Rattle.store_abstraction.specs.declared.layout.Layout.{Layout}
use Rattle.base_value.specs.Types.{is_type}
use Rattle.base_value.specs.Values.{valid}
use Rattle.base_value.specs.declared.value.Value.{Value}

-- the field is unique and its type within its bounds, and the value is valid for it
abbrev pub is_unique_value : Value → FieldPlace → Bool
is_unique_value v f = f.unique && (is_type f.kind && valid f.kind v)

-- the same of the field with this number
abbrev pub HasUnique : Layout → (number : ℕ) → Value → Type 0
HasUnique l number v = IsTrue (in_case (slice_get l.fields number) false (is_unique_value v))
