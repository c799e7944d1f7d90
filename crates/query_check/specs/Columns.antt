-- The fields of an object by its layout.
use Rattle.std.specs.Prelude.{ℕ, ◌+◌, ◌-◌, ◌==◌, nat_lt, if◌then◌else◌, List, [], ◌∷◌, codes, Option, Some, None, slice_get}
use Rattle.std.specs.List.{list_any}
use Rattle.std.specs.Str.{chars}
use Rattle.base_value.specs.declared.value.FieldType.{FieldType}
use Rattle.base_value.specs.declared.value.FieldType.TheVariants as type
use Rattle.model.specs.Cases.{in_case}
use Rattle.model.specs.Fields as model
use Rattle.model.specs.Fields.{Content, of_type, of_ids, its_id, its_owner, its_created, its_modified, value_site, is_master, same_name}
use Rattle.store_abstraction.specs.declared.layout.FieldPlace.{FieldPlace}
use Rattle.store_abstraction.specs.declared.layout.Layout.{Layout}
use Rattle.query_plan.specs.declared.check.Site.{Site}
use Rattle.query_plan.specs.declared.check.Site.TheVariants as site
use Rattle.query_check.specs.declared.columns.Column.{Column}
use Rattle.query_check.specs.declared.columns.Family.{Family}
use Rattle.query_check.specs.declared.columns.Family.TheVariants as family

abbrev pub family_of_type : FieldType → Family
family_of_type (type.Text most) = family.Text
family_of_type (type.Number digits decimals) = family.Number
family_of_type type.Checkbox = family.Truth
family_of_type type.Day = family.Day
family_of_type type.Moment = family.Moment
family_of_type (type.Picklist values) = family.Picklist
family_of_type (type.Lookup object on_delete) = family.Ids
family_of_type (type.Master object) = family.Ids

abbrev pub family_of : Content → Family
family_of of_ids = family.Ids
family_of (of_type kind) = family_of_type kind

-- a position among the values, as far as it is one of a byte
abbrev pub value_place : ℕ → Site
value_place position = site.Value (if nat_lt position 256 then position else 255)

abbrev pub place_at : model.Site → Site
place_at its_id = site.Id
place_at its_owner = site.Owner
place_at its_created = site.Created
place_at its_modified = site.Modified
place_at (value_site position) = value_place position

abbrev pub column : Family → Site → Column
column f s = record { family = f; site = s }

-- a column of the model, without its name
abbrev pub placed : model.Column → Column
placed c = column (family_of c.content) (place_at c.at)

-- the custom field with this name, where so many come before the first
unfoldable pub custom_in : ℕ → List FieldPlace → List ℕ → Option Column
custom_in number [] name = None
custom_in number (f ∷ fs) name =
    if same_name f.name name then Some (column (family_of_type f.kind) (value_place (number + 1))) else custom_in (number + 1) fs name

-- the field with this name
unfoldable pub column_in : Layout → List ℕ → Option Column
column_in l name =
    if same_name (chars (codes "Id")) name then Some (column family.Ids site.Id)
    else (if same_name (chars (codes "CreatedDate")) name then Some (column family.Moment site.Created)
    else (if same_name (chars (codes "LastModifiedDate")) name then Some (column family.Moment site.Modified)
    else (if same_name (chars (codes "Name")) name then Some (column family.Text (site.Value 0))
    else (if list_any (λ f. is_master f.kind) l.fields then custom_in 0 l.fields name
    else (if same_name (chars (codes "OwnerId")) name then Some (column family.Ids site.Owner)
    else custom_in 0 l.fields name)))))

-- ---- names as they are declared

abbrev pub custom_name : List FieldPlace → ℕ → List ℕ
custom_name fs position = in_case (slice_get fs (position - 1)) (chars (codes "")) (λ f. f.name)

abbrev pub name_at : Layout → Site → List ℕ
name_at l site.Id = chars (codes "Id")
name_at l site.Owner = chars (codes "OwnerId")
name_at l site.Created = chars (codes "CreatedDate")
name_at l site.Modified = chars (codes "LastModifiedDate")
name_at l (site.Value position) = if position == 0 then chars (codes "Name") else custom_name l.fields position
