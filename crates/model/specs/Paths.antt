-- The value of a path: names of relationships to parents, and at last the name of a field, as a user sees it.
-- Source: Salesforce, "SOQL and SOSL Reference", "Relationship Queries". That a step to a record which the user may not read
-- gives null is this product's own.
use Rattle.std.specs.Prelude.{ℕ, if◌then◌else◌, List, [], ◌∷◌, Option, Some, None, ℤ}
use Rattle.std.specs.Option.{option_and_then}
use Rattle.base_value.specs.declared.value.Value.{Value}
use Rattle.base_value.specs.declared.value.Value.TheVariants as value
use Rattle.model.specs.declared.record.Record.{Record}
use Rattle.model.specs.Cases.{in_case}
use Rattle.model.specs.Fields.{column_named, value_in}
use Rattle.model.specs.Levels.{can_read}
use Rattle.model.specs.Objects.{object_number, object_of_record}
use Rattle.model.specs.Relationships.{named_record, parent_named}
use Rattle.model.specs.Tenant.{Tenant, User}

-- who asks, in which tenant and at which moment, in seconds from 1970-01-01T00:00:00Z
pub record Asked : Type 0 where
  pub tenant : Tenant
  pub user : User
  pub now : ℤ

-- the user may read the record
abbrev pub if_readable : Asked → Record → Option Record
if_readable a r = if can_read a.tenant a.user r then Some r else None

-- the parent of a record by the relationship with this name, if the user may read it
abbrev pub parent_of : Asked → Record → List ℕ → Option Record
parent_of a r name =
    option_and_then (if_readable a) (option_and_then (λ f. named_record a.tenant f r) (parent_named a.tenant (object_number r.id) name))

-- the value of the field with this name
abbrev pub field_value : Tenant → Record → List ℕ → Value
field_value t r name = in_case (option_and_then (λ o. column_named o name) (object_of_record t r)) value.Null (λ c. value_in c.at r)

-- the value of a path: null where a step is null, or leads to a record that the user may not read
abbrev pub path_value : Asked → Record → List (List ℕ) → Value
path_value a r [] = value.Null
path_value a r (name ∷ []) = field_value a.tenant r name
path_value a r (name ∷ next ∷ names) = in_case (parent_of a r name) value.Null (λ s. path_value a s (next ∷ names))
