-- Values that are valid for a type.
use Rattle.std.proofs.Common.{◌≡◌, ℕ, IsTrue, true, List, [], ◌∷◌, map, Result, Ok, Err, IfOk, refl}
use Rattle.std.specs.Str.{all_scalars}
use Rattle.base_value.specs.Causes.{GivesOr}
use Rattle.base_value.specs.Reading.{empty_value, read_value}
use Rattle.base_value.specs.Values.{valid}
use Rattle.base_value.specs.declared.fail.ValueFail.{ValueFail}
use Rattle.base_value.specs.declared.fail.ValueFail.TheVariants.{Memory}
use Rattle.base_value.specs.declared.value.FieldType.{FieldType}
use Rattle.base_value.specs.declared.value.FieldType.TheVariants as type
use Rattle.base_value.specs.declared.value.Value.{Value}
use Rattle.base_value.specs.declared.value.Value.TheVariants.{Null}
use Rattle.model.specs.Limits.{name_limit}
use Rattle.model.specs.SoundRecords.{all_valid}
use Rattle.store_abstraction.specs.declared.layout.FieldPlace.{FieldPlace}
use Rattle.schema_rules.specs.Objects.{field_of_place}

-- what `base_value` says of what is read
abbrev pub ReadsValid : Type 0
ReadsValid = (kind : FieldType) (text : List ℕ) (v : Value) → IsTrue (all_scalars text) → read_value kind text ≡ Ok v → IsTrue (valid kind v)

pub read_valid : ReadsValid → (kind : FieldType) (text : List ℕ) (r : Result Value ValueFail)
    → IsTrue (all_scalars text) → GivesOr Memory (read_value kind text) r → IfOk r (λ v. IsTrue (valid kind v))
read_valid law kind text (Ok v) scalars h = law kind text v scalars h
read_valid law kind text (Err e) scalars h = tt

-- ---- values of a record, one for each type

abbrev pub kinds_among : List FieldPlace → List FieldType
kinds_among fields = map (λ f. f.kind) (map field_of_place fields)

-- ---- nothing is given

nothing_valid : (kind : FieldType) → valid kind (empty_value kind) ≡ true
nothing_valid (type.Text most) = refl
nothing_valid (type.Number digits decimals) = refl
nothing_valid type.Checkbox = refl
nothing_valid type.Day = refl
nothing_valid type.Moment = refl
nothing_valid (type.Picklist values) = refl
nothing_valid (type.Lookup object on_delete) = refl
nothing_valid (type.Master object) = refl

pub empty_valid : (fields : List FieldPlace) → IsTrue (all_valid (type.Text name_limit ∷ kinds_among fields) (Null ∷ map (λ f. empty_value f.kind) (map field_of_place fields)))
empty_valid [] = refl
empty_valid (f ∷ fields) = rw (nothing_valid f.kind) (empty_valid fields)
