-- The forms of the bodies, each with the request that it makes. They are this product's own.
use Rattle.std.specs.Prelude.{ℕ, true, not, ◌&&◌, List, [], ◌∷◌, bytes_eq, codes, if◌then◌else◌, Option, Some, None, is_some, is_none, unwrap_or}
use Rattle.std.specs.Bool.{beq}
use Rattle.std.specs.List.{flat_map}
use Rattle.std.specs.Option.{option_map}
use Rattle.base_json.specs.Reading.{◌>>=◌}
use Rattle.base_value.specs.declared.sharing.Access.{Access}
use Rattle.base_value.specs.declared.sharing.Access.TheVariants as access
use Rattle.model.specs.Cases.{in_case}
use Rattle.model.specs.Fields.{by_parent}
use Rattle.base_json.specs.declared.tree.Json.{Json}
use Rattle.model.specs.Members.{Body, as_text, as_truth, changing, entry_named, flag_in, formed, if_any, levels, member_names, object_in, principal_in, text_in}
use Rattle.model.specs.declared.metadata_bodies.NewMaster.{NewMaster}
use Rattle.model_requests.specs.Requests.{Request, adds_field, adds_object, adds_sharing_rule, adds_validation_rule, sets_object, shares}
use Rattle.model.specs.declared.sharing_bodies.SpelledSource.TheVariants.{Owner, Criteria}
use Rattle.model.specs.declared.sharing_bodies.SpelledSource.{SpelledSource}
use Rattle.model.specs.Sound.{is_name}
use Rattle.model.specs.TypeForms.{flags_suit, type_member, where_so}

-- ---- shares
abbrev pub share_request : Body → Option Request
share_request body =
    formed (codes "record" ∷ codes "to" ∷ codes "level" ∷ []) [] body >>= λ b.
    text_in b (codes "record") >>= λ item.
    text_in b (codes "to") >>= principal_in >>= λ p.
    text_in b (codes "level") >>= entry_named levels >>= λ level.
    Some (shares (record { members = member_names b; item = item; to = p; level = level }))

-- ---- objects
abbrev pub accesses : List (List ℕ × Access)
accesses =
    (codes "Private", access.Private)
    ∷ (codes "Read", access.Read)
    ∷ (codes "ReadWrite", access.ReadWrite)
    ∷ (codes "ControlledByParent", access.ControlledByParent)
    ∷ []

abbrev pub master_form : Body → Option NewMaster
master_form body =
    formed (codes "field" ∷ codes "parent" ∷ codes "child" ∷ []) [] body >>= λ b.
    text_in b (codes "field") >>= λ field.
    text_in b (codes "parent") >>= λ parent.
    text_in b (codes "child") >>= λ child.
    Some (record { field = field; parent = parent; child = child })

-- `master` may be left out
abbrev pub master_member : Body → Option (Option NewMaster)
master_member b = in_case (entry_named b (codes "master")) (Some None) (λ v. option_map Some (object_in v >>= master_form))

-- the names of all members in their order, those of `master` in its place
abbrev pub all_names : Body → List (List ℕ)
all_names b =
    flat_map (λ name. if bytes_eq name (codes "master") then in_case (entry_named b name >>= object_in) [] member_names else name ∷ []) (member_names b)

-- the member `access`
abbrev pub as_access : Json → Option Access
as_access v = as_text v >>= entry_named accesses

-- `master` is there exactly where the access is ControlledByParent, and then `hierarchy` isn't; it is true where it is left out
abbrev pub object_request : Body → Option Request
object_request body =
    formed (codes "name" ∷ codes "access" ∷ []) (codes "hierarchy" ∷ codes "master" ∷ []) body >>= λ b.
    text_in b (codes "name") >>= λ name.
    text_in b (codes "access") >>= entry_named accesses >>= λ a.
    if_any as_truth b (codes "hierarchy") >>= λ hierarchy.
    master_member b >>= λ master.
    where_so (beq (by_parent a) (is_some master) && not (is_some hierarchy && is_some master))
    (adds_object
    (record {
      members = all_names b;
      name = name;
      access = a;
      hierarchy = unwrap_or hierarchy true;
      master = master;
    }))

-- a change of the object whose name is in the path; its access can't be by the parent
abbrev pub object_change_request : (object : List ℕ) → Body → Option Request
object_change_request object body =
    changing (codes "access" ∷ codes "hierarchy" ∷ []) body >>= λ b.
    if_any as_access b (codes "access") >>= λ a.
    if_any as_truth b (codes "hierarchy") >>= λ hierarchy.
    where_so (in_case a true (λ access. not (by_parent access))) (sets_object object (record { access = a; hierarchy = hierarchy }))

-- ---- fields

abbrev pub field_request : Body → Option Request
field_request body =
    formed (codes "object" ∷ codes "name" ∷ codes "type" ∷ []) (codes "required" ∷ codes "unique" ∷ codes "indexed" ∷ []) body >>= λ b.
    text_in b (codes "object") >>= λ object.
    text_in b (codes "name") >>= λ name.
    type_member b (codes "type") >>= λ kind.
    flag_in b (codes "required") >>= λ required.
    flag_in b (codes "unique") >>= λ unique.
    flag_in b (codes "indexed") >>= λ indexed.
    where_so (flags_suit kind required unique indexed)
    (adds_field
    (record {
      members = member_names b;
      object = object;
      name = name;
      kind = kind;
      required = required;
      unique = unique;
      indexed = indexed;
    }))

-- ---- rules

-- a message has 1 to 80 characters
abbrev pub validation_request : Body → Option Request
validation_request body =
    formed (codes "object" ∷ codes "name" ∷ codes "formula" ∷ codes "message" ∷ []) [] body >>= λ b.
    text_in b (codes "object") >>= λ object.
    text_in b (codes "name") >>= λ name.
    text_in b (codes "formula") >>= λ formula.
    text_in b (codes "message") >>= λ message.
    where_so (is_name message)
    (adds_validation_rule (record { object = object; name = name; formula = formula; message = message }))

-- just one of `from` and `formula`
abbrev pub source_in : Body → Option SpelledSource
source_in b =
    in_case (entry_named b (codes "from")) (option_map Criteria (text_in b (codes "formula"))) (λ v.
    if is_none (entry_named b (codes "formula")) then option_map Owner (as_text v >>= principal_in) else None)

abbrev pub sharing_rule_request : Body → Option Request
sharing_rule_request body =
    formed (codes "object" ∷ codes "name" ∷ codes "to" ∷ codes "level" ∷ []) (codes "from" ∷ codes "formula" ∷ []) body >>= λ b.
    text_in b (codes "object") >>= λ object.
    text_in b (codes "name") >>= λ name.
    text_in b (codes "to") >>= principal_in >>= λ p.
    text_in b (codes "level") >>= entry_named levels >>= λ level.
    source_in b >>= λ source.
    Some (adds_sharing_rule (record { members = member_names b; object = object; name = name; source = source; to = p; level = level }))
