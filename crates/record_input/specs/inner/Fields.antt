-- Some of the fields of an object, with their positions among a record's values.
use Rattle.std.specs.Prelude.{ℕ, ◌&&◌, ◌||◌, List, map, Option, ℤ}
use Rattle.std.specs.List.{enumerate_from}
use Rattle.base_value.specs.declared.value.Value.{Value}
use Rattle.formula.specs.Meaning.{value_at}
use Rattle.model.specs.declared.record.Record.{Record}
use Rattle.model.specs.declared.refusal.Refusal.TheVariants as refusal
use Rattle.model.specs.Rules.{Rule, refuse_if}
use Rattle.model.specs.Fields.{Column, column, is_master, is_null, of_type, value_site}
use Rattle.model.specs.Tenant.{Field}
use Rattle.store_abstraction.specs.declared.layout.FieldPlace.{FieldPlace}
use Rattle.schema_rules.specs.Objects.{field_of_place}

-- the column of a field at a position
abbrev pub column_at : (position : ℕ) → FieldPlace → Column
column_at position f = column f.name (of_type f.kind) (value_site position)

abbrev pub columns_from : (position : ℕ) → List FieldPlace → List Column
columns_from position fields =
    map (λ (f : ℕ × Field). column f.1.name (of_type f.1.kind) (value_site f.0)) (enumerate_from position (map field_of_place fields))

-- the rule of a required field, for these values
abbrev pub missing_at : List Value → ℕ × Field → Rule
missing_at values f =
    refuse_if ((f.1.required || is_master f.1.kind) && is_null (value_at values f.0)) (refusal.RequiredMissing f.1.name)

-- a record that was made at this moment
abbrev pub new_record : (id : List ℕ) → (owner : Option (List ℕ)) → (now : ℤ) → List Value → Record
new_record id owner now values = record { id = id; owner = owner; created = now; modified = now; values = values }
