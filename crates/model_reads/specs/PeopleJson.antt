-- Users, roles and groups in JSON, and principals as bodies spell them. No secret and no digest is told.
-- The members are those of the bodies by which they are made; the forms are this product's own.
use Rattle.std.specs.Prelude.{ℕ, List, [], ◌∷◌, ◌++◌, map, codes}
use Rattle.base_json.specs.declared.tree.Json.{Json}
use Rattle.base_json.specs.declared.tree.Member.{Member}
use Rattle.base_json_tree.specs.Words.{id_text, list, member, object, or_null, text, truth}
use Rattle.base_value.specs.Id.{print18}
use Rattle.base_value.specs.Principals.{principal_id}
use Rattle.base_value.specs.declared.sharing.Principal.{Principal}
use Rattle.base_value.specs.declared.sharing.Principal.TheVariants as to
use Rattle.model.specs.Tenant.{Group, Role, Tenant, User}

-- an object whose one member is a list
abbrev pub listed : (name : List ℕ) → List Json → Json
listed name items = object (member name (list items) ∷ [])

-- ---- principals

abbrev pub kind_word : Principal → List ℕ
kind_word (to.User i) = codes "user:"
kind_word (to.Role i) = codes "role:"
kind_word (to.Subordinates i) = codes "subordinates:"
kind_word (to.Group i) = codes "group:"

-- `user:ID`, `role:ID`, `subordinates:ID` or `group:ID`, with the id in 18 characters
abbrev pub principal_text : Principal → List ℕ
principal_text p = kind_word p ++ print18 (principal_id p)

abbrev pub principal_json : Principal → Json
principal_json p = text (principal_text p)

-- ---- people

-- an id and a name
abbrev pub named_members : (id name : List ℕ) → List Member
named_members id name = member (codes "id") (id_text id) ∷ member (codes "name") (text name) ∷ []

abbrev pub user_json : User → Json
user_json u =
    object
    (named_members u.id u.name
    ++ (member (codes "role") (or_null id_text u.role)
    ∷ member (codes "admin") (truth u.admin)
    ∷ member (codes "active") (truth u.active)
    ∷ []))

abbrev pub role_json : Role → Json
role_json r = object (named_members r.id r.name ++ (member (codes "parent") (or_null id_text r.parent) ∷ []))

abbrev pub group_json : Group → Json
group_json g = object (named_members g.id g.name ++ (member (codes "members") (list (map principal_json g.members)) ∷ []))

-- the ids and names of all
abbrev pub people_json : Tenant → Json
people_json t =
    object
    (member (codes "users") (list (map (λ (u : User). object (named_members u.id u.name)) t.users))
    ∷ member (codes "roles") (list (map (λ (r : Role). object (named_members r.id r.name)) t.roles))
    ∷ member (codes "groups") (list (map (λ (g : Group). object (named_members g.id g.name)) t.groups))
    ∷ [])
