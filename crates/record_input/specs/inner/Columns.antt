-- Fields by their names, and the names that can't be given.
use Rattle.std.specs.Prelude.{ℕ, true, not, ◌&&◌, if◌then◌else◌, List, codes, Option, Some, None}
use Rattle.std.specs.List.{find}
use Rattle.std.specs.Option.{option_map}
use Rattle.model.specs.Cases.{in_case}
use Rattle.model.specs.Edits.{is_writable}
use Rattle.model.specs.Fields.{column_named, is_detail, same_name}
use Rattle.model.specs.Fields as model
use Rattle.model.specs.Tenant.{Field, Object}
use Rattle.record_input.specs.Columns.{Seen}

-- the custom field with this name
abbrev pub custom_seen : List Field → (name : List ℕ) → Option Seen
custom_seen fields name = option_map (λ f. (f.name, true)) (find (λ f. same_name f.name name) fields)

-- the field with this name among those that an edit may give
abbrev pub writable_named : Object → (name : List ℕ) → Option Seen
writable_named o name =
    if same_name (codes "Name") name then Some (codes "Name", true)
    else if same_name (codes "OwnerId") name && not (is_detail o) then Some (codes "OwnerId", true)
    else custom_seen o.fields name

-- the declared name of a field that can't be given
abbrev pub unwritable : model.Column → Option (List ℕ)
unwritable c = if is_writable c.at then None else Some c.name

-- the name that is refused, as declared or else as given
abbrev pub bad_name : Object → List ℕ → Option (List ℕ)
bad_name o name = in_case (column_named o name) (Some name) unwritable
