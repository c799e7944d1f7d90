-- What a text finds for a reference.
use Rattle.std.specs.Prelude.{ℕ, List, Option, Some, None, Ok, Err, if◌then◌else◌}
use Rattle.base_value.specs.Reading.{read_value}
use Rattle.base_value.specs.declared.value.Value.{Value}
use Rattle.base_value.specs.declared.value.Value.TheVariants as value
use Rattle.model.specs.declared.record_bodies.Assignment.{Assignment}
use Rattle.model.specs.Fields.{Column, is_null, of_type}
use Rattle.model.specs.Given.{ReadOr, no_record, or_refusal}
use Rattle.model.specs.Membership.{Has}
use Rattle.model.specs.Tenant.{Tenant}
use Rattle.record_input.specs.Given.{FindsFor}
use Rattle.record_input.specs.declared.found.Found.{Found}

-- the reference to the record with this id, or to none
abbrev pub reference_by_id : Option (List ℕ) → Value
reference_by_id None = no_record
reference_by_id (Some id) = value.Ref id

-- the reference for a value that was read: null finds null
abbrev pub reference_for : Found → Value → Value
reference_for x v = if is_null v then value.Null else reference_by_id x.id

-- the same of what was read, or its refusal
abbrev pub found_or_refusal : Found → ReadOr → ReadOr
found_or_refusal x (Ok v) = Ok (reference_for x v)
found_or_refusal x (Err refusal) = Err refusal

-- the reference for a text, refused under the reference's name
abbrev pub found_by : Found → (name text : List ℕ) → ReadOr
found_by x name text = found_or_refusal x (or_refusal name (of_type x.kind.now) text (read_value x.kind.now text))

-- what the body gives to each of these columns is found
abbrev pub FindsAmong : Tenant → List Found → (body : List Assignment) → List Column → Type 0
FindsAmong t found body cs = (c : Column) → Has cs c → FindsFor t found body c
