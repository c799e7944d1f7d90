-- The forms of the bodies about users, roles, groups, the organisation and the change of a field's type, each with the request that it makes. They
-- are this product's own.
use Rattle.std.specs.Prelude.{ℕ, true, List, [], ◌∷◌, map, codes, Option, Some, unwrap_or}
use Rattle.base_json.specs.Reading.{◌>>=◌}
use Rattle.base_json.specs.declared.tree.Json.{Json, out-Json}
use Rattle.base_value.specs.Id.{id_in}
use Rattle.base_value.specs.Principals.{kind_number}
use Rattle.base_value.specs.Texts.{texts_differ}
use Rattle.model.specs.Members.{Body, all_there, as_text, as_text_or_null, as_truth, changing, formed, if_any, list_by, principal_in, text_in, text_or_null_in, truth_in}
use Rattle.model.specs.Cases.{in_case}
use Rattle.model.specs.Organisations.{is_secret}
use Rattle.model.specs.Principals.{principal_of}
use Rattle.model.specs.declared.people_bodies.Spelled.{Spelled}
use Rattle.model_requests.specs.Requests.{Request, adds_group, adds_role, adds_user, begins_retype, sets_group, sets_organisation, sets_role, sets_user}
use Rattle.model.specs.TypeForms.{type_member, where_so}

-- ---- users
abbrev pub user_request : Body → Option Request
user_request body =
    formed (codes "name" ∷ codes "secret" ∷ codes "role" ∷ codes "admin" ∷ []) [] body >>= λ b.
    text_in b (codes "name") >>= λ name.
    text_in b (codes "secret") >>= λ secret.
    text_or_null_in b (codes "role") >>= λ role.
    truth_in b (codes "admin") >>= λ admin.
    where_so (is_secret secret) (adds_user (record { name = name; secret = secret; role = role; admin = admin }))

-- a change of the user whose id is in the path
abbrev pub user_change_request : (id : List ℕ) → Body → Option Request
user_change_request id body =
    changing (codes "role" ∷ codes "name" ∷ codes "secret" ∷ codes "admin" ∷ codes "active" ∷ []) body >>= λ b.
    if_any as_text_or_null b (codes "role") >>= λ role.
    if_any as_text b (codes "name") >>= λ name.
    if_any as_text b (codes "secret") >>= λ secret.
    if_any as_truth b (codes "admin") >>= λ admin.
    if_any as_truth b (codes "active") >>= λ active.
    where_so (in_case secret true is_secret)
    (sets_user id (record { role = role; name = name; secret = secret; admin = admin; active = active }))

-- ---- roles
abbrev pub role_request : Body → Option Request
role_request body =
    formed (codes "name" ∷ codes "parent" ∷ []) [] body >>= λ b.
    text_in b (codes "name") >>= λ name.
    text_or_null_in b (codes "parent") >>= λ parent.
    Some (adds_role name parent)

-- a change of the role whose id is in the path
abbrev pub role_change_request : (id : List ℕ) → Body → Option Request
role_change_request id body =
    changing (codes "parent" ∷ codes "name" ∷ []) body >>= λ b.
    if_any as_text_or_null b (codes "parent") >>= λ parent.
    if_any as_text b (codes "name") >>= λ name.
    Some (sets_role id (record { parent = parent; name = name }))

-- ---- groups
abbrev pub group_request : Body → Option Request
group_request body = formed (codes "name" ∷ []) [] body >>= λ b. text_in b (codes "name") >>= λ name. Some (adds_group name)

-- what tells principals apart: the kind, and the id or, where the text is none, the text
abbrev pub identity_of : Spelled → List ℕ
identity_of p = kind_number (principal_of p) ∷ unwrap_or (id_in p.text) p.text

-- principals in a list, all different
abbrev pub as_principals : Json → Option (List Spelled)
as_principals v =
    list_by (out-Json v) >>= λ items.
    all_there (map (λ v. as_text v >>= principal_in) items) >>= λ members.
    where_so (texts_differ (map identity_of members)) members

-- a change of the group whose id is in the path
abbrev pub group_change_request : (id : List ℕ) → Body → Option Request
group_change_request id body =
    changing (codes "members" ∷ codes "name" ∷ []) body >>= λ b.
    if_any as_principals b (codes "members") >>= λ members.
    if_any as_text b (codes "name") >>= λ name.
    Some (sets_group id (record { members = members; name = name }))

-- ---- the organisation
abbrev pub organisation_request : Body → Option Request
organisation_request body = formed (codes "name" ∷ []) [] body >>= λ b. text_in b (codes "name") >>= λ name. Some (sets_organisation name)

-- ---- the change of a field's type
abbrev pub retype_request : Body → Option Request
retype_request body =
    formed (codes "object" ∷ codes "field" ∷ codes "type" ∷ []) [] body >>= λ b.
    text_in b (codes "object") >>= λ object.
    text_in b (codes "field") >>= λ field.
    type_member b (codes "type") >>= λ kind.
    Some (begins_retype object field kind)
