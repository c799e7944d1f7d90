-- An object by its layout: all but its validation rules.
use Rattle.std.specs.Prelude.{[], map}
use Rattle.model.specs.Objects.{Numbered}
use Rattle.model.specs.Tenant.{Field, Object}
use Rattle.store_abstraction.specs.declared.layout.FieldPlace.{FieldPlace}
use Rattle.store_abstraction.specs.declared.layout.Layout.{Layout}

-- a field, without its slot
abbrev pub field_of_place : FieldPlace → Field
field_of_place f =
    record { name = f.name; kind = f.kind; required = f.required; unique = f.unique; indexed = f.indexed; child = f.child }

-- an object, without its validation rules
abbrev pub object_of_layout : Layout → Object
object_of_layout l = record { name = l.name; access = l.access; hierarchy = l.hierarchy; fields = map field_of_place l.fields; validation_rules = [] }

-- the same, with its number
abbrev pub numbered_in : Layout → Numbered
numbered_in l = record { number = l.object; object = object_of_layout l }
