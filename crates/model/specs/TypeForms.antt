-- The forms of types in bodies, and which flags suit them.
-- Source of the kinds: Salesforce, "Field Types". The forms are this product's own.
use Rattle.std.specs.Prelude.{ℕ, Bool, ◌&&◌, if◌then◌else◌, List, [], ◌∷◌, map, codes, Option, Some, None}
use Rattle.base_json.specs.Reading.{◌>>=◌}
use Rattle.base_value.specs.Types.{is_type, suits_unique, suits_indexed}
use Rattle.base_value.specs.declared.value.FieldType.{FieldType}
use Rattle.base_value.specs.declared.value.FieldType.TheVariants as type
use Rattle.base_value.specs.declared.value.OnDelete.{OnDelete}
use Rattle.base_value.specs.declared.value.OnDelete.TheVariants as on_delete
use Rattle.model.specs.Members.{Body, all_there, as_text, entry_named, formed, list_in, object_in, text_in, whole_in}
use Rattle.model.specs.declared.metadata_bodies.SpelledType.{SpelledType}
use Rattle.model.specs.declared.metadata_bodies.SpelledType.TheVariants.{Plain, LookupTo}
use Rattle.model.specs.NewFields.{type_with}
use Rattle.model.specs.SoundMetadata.{implies, may_be_required}

-- flags suit the type, whatever object a lookup names
abbrev pub flags_suit : SpelledType → (required unique indexed : Bool) → Bool
flags_suit kind required unique indexed =
    let k = type_with None kind in
    implies required (may_be_required k) && (implies unique (suits_unique k) && implies indexed (suits_indexed k))

-- the thing, where this is so
abbrev pub where_so : {X : Type 0} → Bool → X → Option X
where_so good x = if good then Some x else None

-- a type that is no lookup, within its bounds
abbrev pub in_bounds_type : FieldType → Option SpelledType
in_bounds_type kind = where_so (is_type kind) (Plain kind)

-- `length`
abbrev pub text_type : Body → Option SpelledType
text_type body =
    formed (codes "kind" ∷ codes "length" ∷ []) [] body >>= λ b. whole_in b (codes "length") >>= λ n. in_bounds_type (type.Text n)

-- `digits` and `decimals`
abbrev pub number_type : Body → Option SpelledType
number_type body =
    formed (codes "kind" ∷ codes "digits" ∷ codes "decimals" ∷ []) [] body >>= λ b.
    whole_in b (codes "digits") >>= λ digits. whole_in b (codes "decimals") >>= λ decimals. in_bounds_type (type.Number digits decimals)

-- nothing more
abbrev pub simple_type : FieldType → Body → Option SpelledType
simple_type kind body = formed (codes "kind" ∷ []) [] body >>= λ b. in_bounds_type kind

-- `values`, which are texts
abbrev pub picklist_type : Body → Option SpelledType
picklist_type body =
    formed (codes "kind" ∷ codes "values" ∷ []) [] body >>= λ b.
    list_in b (codes "values") >>= λ items. all_there (map as_text items) >>= λ values. in_bounds_type (type.Picklist values)

abbrev pub deletions : List (List ℕ × OnDelete)
deletions = (codes "Clear", on_delete.Clear) ∷ (codes "Restrict", on_delete.Restrict) ∷ []

-- `object`, `onDelete` and `child`
abbrev pub lookup_type : Body → Option SpelledType
lookup_type body =
    formed (codes "kind" ∷ codes "object" ∷ codes "onDelete" ∷ codes "child" ∷ []) [] body >>= λ b.
    text_in b (codes "object") >>= λ object.
    text_in b (codes "onDelete") >>= entry_named deletions >>= λ o.
    text_in b (codes "child") >>= λ child.
    Some (LookupTo object o child)

-- the kinds, and what else a type of each has
abbrev pub type_forms : List (List ℕ × (Body → Option SpelledType))
type_forms =
    (codes "Text", text_type)
    ∷ (codes "Number", number_type)
    ∷ (codes "Checkbox", simple_type type.Checkbox)
    ∷ (codes "Day", simple_type type.Day)
    ∷ (codes "Moment", simple_type type.Moment)
    ∷ (codes "Picklist", picklist_type)
    ∷ (codes "Lookup", lookup_type)
    ∷ []

-- the type that a body spells
abbrev pub type_of : Body → Option SpelledType
type_of b = text_in b (codes "kind") >>= entry_named type_forms >>= λ form. form b

-- a member that is a type
abbrev pub type_member : Body → List ℕ → Option SpelledType
type_member b name = entry_named b name >>= object_in >>= type_of
