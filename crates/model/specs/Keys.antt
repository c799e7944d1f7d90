-- The key of an upsert: a unique field, and the value that the path gives it. Other edits have none.
-- Source: Salesforce, REST API, "Insert or Update (Upsert) a Record Using an External ID". That the body may give the key its own
-- value again is this product's own.
use Rattle.std.specs.Prelude.{Bool, false, not, ◌&&◌, List, [], ◌∷◌, ◌++◌, Option, Some, None, Ok, Err}
use Rattle.base_value.specs.Values.{same_value}
use Rattle.base_value.specs.declared.value.Value.{Value}
use Rattle.model.specs.declared.record_bodies.Given.TheVariants as gives
use Rattle.model.specs.declared.refusal.Refusal.TheVariants.{InvalidField}
use Rattle.model.specs.Cases.{in_case}
use Rattle.model.specs.Edits.{bad_field}
use Rattle.model.specs.Fields.{Column, same_name}
use Rattle.model.specs.Given.{Assignment, ReadOr, read_given}
use Rattle.model.specs.Rules.{Rule, refuse_if, first_of, first_refusal}
use Rattle.model.specs.Tenant.{Object, Tenant}

pub record Key : Type 0 where
  pub column : Column
  pub value : Value

-- what was read is exactly this value
abbrev pub reads_as : Value → ReadOr → Bool
reads_as v (Ok read) = same_value read v
reads_as v (Err refusal) = false

-- the body gives the key another value
abbrev pub other_key : Tenant → Option Key → Assignment → Rule
other_key t key x =
    in_case key None (λ k.
    refuse_if (same_name x.field k.column.name && not (reads_as k.value (read_given t k.column x.given))) (InvalidField k.column.name))

-- INVALID_FIELD, in the order of the body: names that can't be given, and another value of the key
abbrev pub bad_fields : Tenant → Object → Option Key → List Assignment → Rule
bad_fields t o key given = first_of (λ x. first_refusal (bad_field o x ∷ other_key t key x ∷ [])) given

-- what the body gives, and the key
abbrev pub with_key : Option Key → List Assignment → List Assignment
with_key None given = given
with_key (Some k) given = given ++ record { field = k.column.name; given = gives.Read k.value } ∷ []
