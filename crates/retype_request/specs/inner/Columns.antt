-- Fields by their names. No public contract reaches these words.
-- Sources: as in the definition of fields.
use Rattle.std.specs.Prelude.{ℕ, ◌+◌, Bool, not, ◌&&◌, if◌then◌else◌, List, [], ◌∷◌, codes, Option, Some, None}
use Rattle.model.specs.Cases.{in_case}
use Rattle.model.specs.Fields.{Column, same_name}
use Rattle.model.specs.Retyping.{custom_place}
use Rattle.retype_request.specs.declared.columns.NamedField.{NamedField}
use Rattle.store_abstraction.specs.declared.layout.FieldPlace.{FieldPlace}

-- a field's name as declared, and its number, if it is a custom one
abbrev pub named_by : Column → NamedField
named_by c = record { name = c.name; custom = custom_place c.at }

-- the name of the field with this name that objects have beside custom ones
abbrev pub system_name : (detail : Bool) → (name : List ℕ) → Option (List ℕ)
system_name detail name =
    if same_name (codes "Id") name then Some (codes "Id")
    else if same_name (codes "CreatedDate") name then Some (codes "CreatedDate")
    else if same_name (codes "LastModifiedDate") name then Some (codes "LastModifiedDate")
    else if same_name (codes "Name") name then Some (codes "Name")
    else if same_name (codes "OwnerId") name && not detail then Some (codes "OwnerId")
    else None

-- the first custom field with this name; the first of these has the number k
abbrev pub custom_from : (name : List ℕ) → (k : ℕ) → List FieldPlace → Option NamedField
custom_from name k [] = None
custom_from name k (f ∷ fields) =
    if same_name f.name name then Some (record { name = f.name; custom = Some k }) else custom_from name (k + 1) fields

-- the field with this name
abbrev pub field_by : (detail : Bool) → List FieldPlace → (name : List ℕ) → Option NamedField
field_by detail fields name = in_case (system_name detail name) (custom_from name 0 fields) (λ s. Some (record { name = s; custom = None }))
