-- The bounds of the types of fields.
-- Source of the kinds: Salesforce, "Field Types". The limits are this product's own.
use Rattle.std.specs.Prelude.{ℕ, Bool, true, false, ◌&&◌, nat_le, List, length}
use Rattle.std.specs.List.{list_all}
use Rattle.std.specs.Str.{all_scalars}
use Rattle.base_value.specs.Texts.{texts_differ}
use Rattle.base_value.specs.Numerals.{is_within}
use Rattle.base_value.specs.declared.value.FieldType.{FieldType}
use Rattle.base_value.specs.declared.value.FieldType.TheVariants as type

-- a value that a picklist may list: 1 to 40 characters
abbrev pub is_choice : List ℕ → Bool
is_choice cs = all_scalars cs && is_within 1 40 (length cs)

-- a type within its bounds
abbrev pub is_type : FieldType → Bool
is_type (type.Text most) = is_within 1 255 most
is_type (type.Number digits decimals) = is_within 1 18 digits && (nat_le decimals 8 && nat_le decimals digits)
is_type (type.Picklist values) = is_within 1 100 (length values) && (list_all is_choice values && texts_differ values)
is_type _ = true

-- a lookup or a master
abbrev pub is_reference : FieldType → Bool
is_reference (type.Lookup object on_delete) = true
is_reference (type.Master object) = true
is_reference _ = false

-- fields of these types may be unique: texts and numbers
abbrev pub suits_unique : FieldType → Bool
suits_unique (type.Text most) = true
suits_unique (type.Number digits decimals) = true
suits_unique _ = false

-- fields of these types may be indexed: all but truth values and references
abbrev pub suits_indexed : FieldType → Bool
suits_indexed type.Checkbox = false
suits_indexed (type.Lookup object on_delete) = false
suits_indexed (type.Master object) = false
suits_indexed _ = true
