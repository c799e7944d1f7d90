-- Who asks, and limits, as they are told from rows.
use Rattle.std.specs.Prelude.{ℕ, [], ◌∷◌, codes}
use Rattle.base_json.specs.declared.tree.Json.{Json}
use Rattle.base_json_tree.specs.Words.{id_text, member, object, or_null, text, truth}
use Rattle.model.specs.declared.limit.Limit.TheVariants as limit
use Rattle.model.specs.World.{org_id}
use Rattle.model_reads.specs.CallerJson.{limit_member}
use Rattle.store_rows.specs.declared.org.OrgRow.{OrgRow}
use Rattle.store_rows.specs.declared.user.UserRow.{UserRow}

-- a user of the organisation with this number
abbrev pub told_caller : (org : ℕ) → UserRow → Json
told_caller org r =
    object
    (member (codes "user_id") (id_text r.id)
    ∷ member (codes "organization_id") (id_text (org_id org))
    ∷ member (codes "preferred_username") (id_text r.id)
    ∷ member (codes "name") (text r.name)
    ∷ member (codes "active") (truth r.active)
    ∷ member (codes "is_admin") (truth r.admin)
    ∷ member (codes "role") (or_null id_text r.role)
    ∷ [])

-- how many there may be, and how many more, by the counts of an organisation
abbrev pub told_limits : OrgRow → Json
told_limits r =
    object
    (limit_member (codes "Records") limit.Records r.records
    ∷ limit_member (codes "Objects") limit.Objects r.objects
    ∷ limit_member (codes "Users") limit.Users r.users
    ∷ limit_member (codes "Roles") limit.Roles r.roles
    ∷ limit_member (codes "Groups") limit.Groups r.groups
    ∷ limit_member (codes "SharingRules") limit.SharingRules r.sharing_rules
    ∷ [])
