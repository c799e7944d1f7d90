-- References that change, and the fields whose references are bad. No public contract reaches these words.
use Rattle.std.specs.Prelude.{ℕ, Bool, not, if◌then◌else◌, List, bytes_eq, map, Option, Some, None, Result, Ok, Err}
use Rattle.std.specs.List.{enumerate_from, flat_map}
use Rattle.std.specs.Option.{option_eq}
use Rattle.base_value.specs.Values.{ref_of}
use Rattle.base_value.specs.declared.value.FieldType.{FieldType}
use Rattle.formula.specs.Meaning.{value_at}
use Rattle.store_rows.specs.declared.fail.StoreFail.{StoreFail}
use Rattle.model.specs.declared.record.Record.{Record}
use Rattle.model.specs.declared.refusal.Refusal.TheVariants.{InvalidReference}
use Rattle.model.specs.Cases.{in_case}
use Rattle.model.specs.Edits.{bad_reference}
use Rattle.model.specs.Paths.{Asked}
use Rattle.model.specs.Relationships.{reference_at, target_of}
use Rattle.model.specs.Rules.{Rule, first_of, refuse_if}
use Rattle.schema_rules.specs.Objects.{field_of_place}
use Rattle.store_abstraction.specs.declared.layout.FieldPlace.{FieldPlace}

-- ---- what is looked for

-- the id to which the value at a position refers, where it isn't the one that it referred to before
abbrev pub changed_id : (position : ℕ) → (old new : Record) → Option (List ℕ)
changed_id position old new =
    in_case (ref_of (value_at new.values position)) None (λ id.
    if option_eq bytes_eq (ref_of (value_at old.values position)) (Some id) then None else Some id)

-- the same with the object to which a type refers
abbrev pub looked_for : FieldType → (position : ℕ) → (old new : Record) → Option (ℕ × List ℕ)
looked_for kind position old new =
    in_case (target_of kind) None (λ object. in_case (changed_id position old new) None (λ id. Some (object, id)))

-- the refusal under this name, unless what was looked for is there
abbrev pub refused_unless : List ℕ → Result Bool StoreFail → Result Rule StoreFail
refused_unless name (Ok there) = Ok (refuse_if (not there) (InvalidReference name))
refused_unless name (Err fail) = Err fail

-- ---- fields

-- the field at this position of an object, if it is a bad reference
abbrev pub bad_at : (object : ℕ) → FieldPlace → (position : ℕ) → (old new : Record) → Asked → Rule
bad_at object f position old new a = first_of (bad_reference a old new) (reference_at object (position, field_of_place f))

-- the first of these fields that is one, where the first of them is at this position
abbrev pub bad_from : (object : ℕ) → List FieldPlace → (position : ℕ) → (old new : Record) → Asked → Rule
bad_from object fields position old new a =
    first_of (bad_reference a old new) (flat_map (reference_at object) (enumerate_from position (map field_of_place fields)))
