-- What the form of a body gives, beyond what the rules of its request ask. Every request that is read has it; a request as data may
-- lack it, and then what its verdict leaves need not be sound. It is this product's own.
use Rattle.std.specs.Prelude.{◌≡◌, ℕ, Bool, true, false, not, ◌&&◌, List, None, Option, Some, Ok, bytes_eq, codes, slice_get, is_some, IsTrue}
use Rattle.std.specs.List.{list_all, list_any}
use Rattle.std.specs.Str.{all_scalars}
use Rattle.base_value.specs.Dates.{is_moment}
use Rattle.base_value.specs.Types.{is_reference, is_type}
use Rattle.base_value.specs.declared.value.Value.{Value}
use Rattle.model.specs.declared.record.Record.{Record}
use Rattle.model.specs.Cases.{in_case}
use Rattle.model.specs.Edits.{bad_value, with_given}
use Rattle.model.specs.Fields.{column, of_type, value_site}
use Rattle.model.specs.declared.record_bodies.Given.TheVariants as gives
use Rattle.model.specs.declared.record_bodies.Assignment.{Assignment}
use Rattle.model.specs.declared.record_bodies.Given.{Given}
use Rattle.model.specs.Given.{json_text}
use Rattle.model.specs.TypeForms.{flags_suit}
use Rattle.model.specs.Keys.{Key, with_key}
use Rattle.model.specs.Members.{Body, body_in}
use Rattle.model.specs.declared.metadata_bodies.NewObject.{NewObject}
use Rattle.model.specs.declared.metadata_bodies.ObjectChange.{ObjectChange}
use Rattle.model.specs.declared.metadata_bodies.NewField.{NewField}
use Rattle.model.specs.declared.metadata_bodies.SpelledType.{SpelledType}
use Rattle.model.specs.declared.metadata_bodies.SpelledType.TheVariants.{Plain, LookupTo}
use Rattle.model.specs.NewFields.{type_with}
use Rattle.model.specs.Paths.{Asked}
use Rattle.model.specs.declared.sharing_bodies.NewShare.{NewShare}
use Rattle.model.specs.declared.sharing_bodies.SpelledSource.TheVariants.{Owner, Criteria}
use Rattle.model.specs.declared.sharing_bodies.NewSharingRule.{NewSharingRule}
use Rattle.model.specs.declared.sharing_bodies.SpelledSource.{SpelledSource}
use Rattle.model.specs.Fields.{by_parent}
use Rattle.model.specs.SoundPeople.{is_name}
use Rattle.model.specs.SoundRecords.{all_valid, kinds_of}
use Rattle.model.specs.SoundSharing.{is_grant}
use Rattle.model.specs.Tenant.{Field, Object}
use Rattle.model.specs.Upserts.{key_value, unique_named}
use Rattle.model.specs.declared.metadata_bodies.NewValidationRule.{NewValidationRule}
use Rattle.model.specs.World.{user_at}

-- ---- sharing

-- the body has this member
abbrev pub has_member : (members : List (List ℕ)) → (name : List ℕ) → Bool
has_member members name = list_any (bytes_eq name) members

-- the source of an owner rule is the member `from`, and the text of a formula is of characters
abbrev pub has_source : (members : List (List ℕ)) → SpelledSource → Bool
has_source members (Owner p) = has_member members (codes "from")
has_source members (Criteria text) = all_scalars text

-- the level is Read or Edit, and the principals are members of the body
abbrev pub is_fit_rule : NewSharingRule → Bool
is_fit_rule b = is_grant b.level && (has_member b.members (codes "to") && has_source b.members b.source)

-- the message has its form, and the formula is of characters
abbrev pub is_fit_validation : NewValidationRule → Bool
is_fit_validation b = is_name b.message && all_scalars b.formula

-- the level is Read or Edit
abbrev pub is_fit_share : NewShare → Bool
is_fit_share b = is_grant b.level

-- ---- objects

-- `name` is a member, and of a detail those of its master are; the access is by the parent exactly in a detail, which says nothing of
-- the role hierarchy
abbrev pub is_fit_object : NewObject → Bool
is_fit_object b =
    has_member b.members (codes "name")
    && in_case b.master (not (by_parent b.access)) (λ m.
    by_parent b.access && (b.hierarchy && (has_member b.members (codes "field") && has_member b.members (codes "child"))))

-- another access isn't by the parent
abbrev pub is_fit_object_change : ObjectChange → Bool
is_fit_object_change c = in_case c.access true (λ access. not (by_parent access))

-- a lookup is the member `type`, and no other type is a reference
abbrev pub has_type : (members : List (List ℕ)) → SpelledType → Bool
has_type members (Plain kind) = not (is_reference kind)
has_type members (LookupTo object on_delete child) = has_member members (codes "type")

-- `name` is a member, the type is within its bounds, and the flags suit it, whatever object a lookup names
abbrev pub is_fit_field : NewField → Bool
is_fit_field b =
    has_member b.members (codes "name") && (has_type b.members b.kind
    && (is_type (type_with None b.kind) && flags_suit b.kind b.required b.unique b.indexed))

-- ---- records

-- who asks is a user of the organisation, and asks at a moment of the calendar
abbrev pub IsCaller : Asked → Type 0
IsCaller a = IsTrue (is_some (user_at a.tenant.users a.user.id)) × IsTrue (is_moment a.now)

-- of each object of the organisation
abbrev pub OfObjects : Asked → (Object → Type 0) → Type 0
OfObjects a P = (n : ℕ) (o : Object) → slice_get a.tenant.objects n ≡ Some o → P o

-- what is read in a body is of its field's type: with what is given valid values stay valid, unless one is refused
abbrev pub ReadsWell : Asked → Object → List Assignment → Type 0
ReadsWell a o given =
    bad_value a.tenant o given ≡ None
    → (old : Record) → IsTrue (all_valid (kinds_of o) old.values) → IsTrue (all_valid (kinds_of o) (with_given a o given old).values)

-- what a body in JSON gives: its texts are characters
abbrev pub is_spelled : Given → Bool
is_spelled (gives.Json j) = all_scalars (json_text j)
is_spelled _ = false

-- the texts that this body's members are, are characters
abbrev pub SpellsCharacters : (body : List ℕ) → Type 0
SpellsCharacters body = (b : Body) → body_in body ≡ Some b → IsTrue (list_all (λ m. all_scalars (json_text m.1)) b)

-- the key of an upsert by this field
abbrev pub key_of : ℕ × Field → Value → Key
key_of f v = record { column = column f.1.name (of_type f.1.kind) (value_site f.0); value = v }

-- the same with the key of an upsert, where the text of the path reads to a value of the unique field
abbrev pub ReadsWellByKey : Asked → (key : List ℕ) → (text : Option (List ℕ)) → Object → List Assignment → Type 0
ReadsWellByKey a key text o given =
    (f : ℕ × Field) (v : Value) → unique_named o key ≡ Some f → key_value f.1 text ≡ Ok v → ReadsWell a o (with_key (Some (key_of f v)) given)
