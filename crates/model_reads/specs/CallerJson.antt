-- Who asks, which versions and resources there are, and how many more there may be of each thing, in JSON.
-- Sources: OpenID Connect Core 1.0, 5.3, and Salesforce, "Identity URLs", of who asks; Salesforce, REST API, "Versions", "Resources by
-- Version" and "Limits". The numbers are this product's own.
use Rattle.std.specs.Prelude.{ℕ, ◌-◌, List, [], ◌∷◌, ◌++◌, length, codes}
use Rattle.base_json.specs.declared.tree.Json.{Json}
use Rattle.base_json.specs.declared.tree.Member.{Member}
use Rattle.base_json_tree.specs.Words.{id_text, list, member, number, object, or_null, text, truth}
use Rattle.model.specs.declared.limit.Limit.{Limit}
use Rattle.model.specs.declared.limit.Limit.TheVariants as limit
use Rattle.model.specs.Limits.{limit_number}
use Rattle.model.specs.Tenant.{Tenant, User}
use Rattle.model.specs.World.{org_id}

-- ---- who asks

-- a user of the organisation with this number
abbrev pub caller_json : (org : ℕ) → User → Json
caller_json org u =
    object
    (member (codes "user_id") (id_text u.id)
    ∷ member (codes "organization_id") (id_text (org_id org))
    ∷ member (codes "preferred_username") (id_text u.id)
    ∷ member (codes "name") (text u.name)
    ∷ member (codes "active") (truth u.active)
    ∷ member (codes "is_admin") (truth u.admin)
    ∷ member (codes "role") (or_null id_text u.role)
    ∷ [])

-- ---- versions and resources

-- the path below which the version's resources are
abbrev pub base : List ℕ
base = codes "/services/data/v59.0"

abbrev pub versions_json : Json
versions_json =
    list
    (object
    (member (codes "label") (text (codes "v59.0"))
    ∷ member (codes "url") (text base)
    ∷ member (codes "version") (text (codes "59.0"))
    ∷ [])
    ∷ [])

abbrev pub resource : (name : List ℕ) → Member
resource name = member name (text (base ++ codes "/" ++ name))

abbrev pub resources_json : Json
resources_json = object (resource (codes "sobjects") ∷ resource (codes "query") ∷ resource (codes "limits") ∷ [])

-- ---- limits

-- how many there may be, and how many more where there are so many
abbrev pub limit_member : (name : List ℕ) → Limit → (count : ℕ) → Member
limit_member name l count =
    member name
    (object
    (member (codes "Max") (number (limit_number l)) ∷ member (codes "Remaining") (number (limit_number l - count)) ∷ []))

abbrev pub limits_json : Tenant → Json
limits_json t =
    object
    (limit_member (codes "Records") limit.Records (length t.records)
    ∷ limit_member (codes "Objects") limit.Objects (length t.objects)
    ∷ limit_member (codes "Users") limit.Users (length t.users)
    ∷ limit_member (codes "Roles") limit.Roles (length t.roles)
    ∷ limit_member (codes "Groups") limit.Groups (length t.groups)
    ∷ limit_member (codes "SharingRules") limit.SharingRules (length t.sharing_rules)
    ∷ [])
