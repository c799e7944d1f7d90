-- What the row of an object says of access.
-- Source: Salesforce, "Organization-Wide Sharing Defaults", of defaults and of access through the role hierarchy.
use Rattle.std.specs.Prelude.{Bool, ◌||◌, unwrap_or}
use Rattle.base_value.specs.declared.sharing.Access.{Access}
use Rattle.model.specs.Fields.{by_parent}
use Rattle.model.specs.declared.metadata_bodies.ObjectChange.{ObjectChange}
use Rattle.store_codec.specs.declared.choices.ObjectAccess.{ObjectAccess}

-- where the access is by the parent, the role hierarchy counts
abbrev pub spelled_access : Access → (hierarchy : Bool) → ObjectAccess
spelled_access access hierarchy = record { access = access; hierarchy = hierarchy || by_parent access }

-- what it says after a change
abbrev pub changed_access : ObjectChange → ObjectAccess → ObjectAccess
changed_access c was = spelled_access (unwrap_or c.access was.access) (unwrap_or c.hierarchy was.hierarchy)
