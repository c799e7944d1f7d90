-- Users, roles, groups and sharing rules in JSON, as they are told from their rows.
use Rattle.std.specs.Prelude.{ℕ, List, [], ◌∷◌, ◌++◌, map, slice_get, codes}
use Rattle.base_json.specs.declared.tree.Json.{Json}
use Rattle.base_json.specs.declared.tree.Member.{Member}
use Rattle.base_json_tree.specs.Words.{id_text, list, member, object, or_null, text, truth}
use Rattle.base_value.specs.declared.sharing.RuleSource.{RuleSource}
use Rattle.base_value.specs.declared.sharing.RuleSource.TheVariants as source
use Rattle.model.specs.Cases.{in_case}
use Rattle.model_reads.specs.PeopleJson.{named_members, principal_json}
use Rattle.model_reads.specs.SettingsJson.{level_name, state_name}
use Rattle.store_abstraction.specs.declared.layout.Layout.{Layout}
use Rattle.store_rows.specs.declared.group.GroupRow.{GroupRow}
use Rattle.store_rows.specs.declared.role.RoleRow.{RoleRow}
use Rattle.store_rows.specs.declared.sharing.SharingRow.{SharingRow}
use Rattle.store_rows.specs.declared.user.UserRow.{UserRow}

-- ---- people

abbrev pub short_user : UserRow → Json
short_user r = object (named_members r.id r.name)

abbrev pub short_role : RoleRow → Json
short_role r = object (named_members r.id r.name)

abbrev pub short_group : GroupRow → Json
short_group r = object (named_members r.id r.name)

abbrev pub whole_user : UserRow → Json
whole_user r =
    object
    (named_members r.id r.name
    ++ (member (codes "role") (or_null id_text r.role)
    ∷ member (codes "admin") (truth r.admin)
    ∷ member (codes "active") (truth r.active)
    ∷ []))

abbrev pub whole_role : RoleRow → Json
whole_role r = object (named_members r.id r.name ++ (member (codes "parent") (or_null id_text r.parent) ∷ []))

abbrev pub whole_group : GroupRow → Json
whole_group r = object (named_members r.id r.name ++ (member (codes "members") (list (map principal_json r.members)) ∷ []))

-- the ids and names of all
abbrev pub short_people : List UserRow → List RoleRow → List GroupRow → Json
short_people users roles groups =
    object
    (member (codes "users") (list (map short_user users))
    ∷ member (codes "roles") (list (map short_role roles))
    ∷ member (codes "groups") (list (map short_group groups))
    ∷ [])

-- ---- sharing rules

-- the name of the object with this number, of all objects in their order
abbrev pub name_at : List Layout → ℕ → List ℕ
name_at layouts n = in_case (slice_get layouts n) [] (λ l. l.name)

-- whose records they are, or the formula that they meet
abbrev pub source_told : RuleSource → Member
source_told (source.Owner p) = member (codes "from") (principal_json p)
source_told (source.Criteria formula) = member (codes "formula") (text formula)

abbrev pub told_rule : List Layout → SharingRow → Json
told_rule layouts r =
    object
    (member (codes "object") (text (name_at layouts r.object))
    ∷ member (codes "name") (text r.name)
    ∷ source_told r.source
    ∷ member (codes "to") (principal_json r.to)
    ∷ member (codes "level") (text (level_name r.level))
    ∷ member (codes "state") (text (state_name r.state))
    ∷ member (codes "cursor") (or_null id_text r.cursor)
    ∷ [])
