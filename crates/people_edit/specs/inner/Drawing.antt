-- What new users, roles and groups share: the rules on them, and what they are given. No public contract reaches these words.
-- Source: Salesforce, "User", "UserRole" and "Group"; the order of the rules is this product's own.
use Rattle.std.specs.Prelude.{◌≡◌, ◌<◌, ℕ, ◌+◌, List, [], ◌∷◌, Option, IfSome, IsTrue, codes}
use Rattle.std.specs.Option.{option_map}
use Rattle.store_rows.specs.declared.org.OrgRow.{OrgRow}
use Rattle.store_rows.specs.Forms.{FitsForm}
use Rattle.store_rows.specs.Rows.{org_form}
use Rattle.model.specs.declared.limit.Limit.{Limit}
use Rattle.model.specs.declared.limit.Limit.TheVariants as limit
use Rattle.model.specs.Limits.{limit_number}
use Rattle.model.specs.Names.{bad_name}
use Rattle.model.specs.People.{next_id, no_role}
use Rattle.model.specs.Principals.{bad_id_if_any, spelled_id}
use Rattle.model.specs.Rules.{Rule, over_limit}
use Rattle.model.specs.Sound.{is_name}
use Rattle.model.specs.Tenant.{Tenant}
use Rattle.model.specs.World.{group_prefix, role_prefix, user_prefix}
use Rattle.people_edit.specs.declared.edits.drawing.Drawn.{Drawn}
use Rattle.people_edit.specs.declared.edits.kind.Kind.{Kind}
use Rattle.people_edit.specs.declared.edits.kind.Kind.TheVariants as kind
use Rattle.store_abstraction.specs.Metadata.{org_of}
use Rattle.base_value.specs.Id.{is_id}

-- ---- by kind

abbrev pub kind_limit : Kind → Limit
kind_limit kind.User = limit.Users
kind_limit kind.Role = limit.Roles
kind_limit kind.Group = limit.Groups

abbrev pub kind_prefix : Kind → List ℕ
kind_prefix kind.User = user_prefix
kind_prefix kind.Role = role_prefix
kind_prefix kind.Group = group_prefix

-- the member of a body that names a role. That of a group names none
abbrev pub kind_member : Kind → List ℕ
kind_member kind.User = codes "role"
kind_member kind.Role = codes "parent"
kind_member kind.Group = codes "role"

-- how many there are, by the organisation's row
abbrev pub kind_count : Kind → OrgRow → ℕ
kind_count kind.User row = row.users
kind_count kind.Role row = row.roles
kind_count kind.Group row = row.groups

-- the organisation's row with one more, and one id more
abbrev pub one_more : Kind → OrgRow → OrgRow
one_more kind.User row = record row { counter = row.counter + 1; users = row.users + 1 }
one_more kind.Role row = record row { counter = row.counter + 1; roles = row.roles + 1 }
one_more kind.Group row = record row { counter = row.counter + 1; groups = row.groups + 1 }

-- ---- judging

-- the rules on a new one, where the organisation's row has these counts
abbrev pub new_rules : Kind → OrgRow → Tenant → (name : List ℕ) → (role : Option (List ℕ)) → List Rule
new_rules k row t name role =
    bad_name is_name name
    ∷ bad_id_if_any role
    ∷ no_role t (kind_member k) role
    ∷ over_limit ((kind_limit k, kind_count k row + 1) ∷ (limit.Ids, row.counter + 1) ∷ [])
    ∷ []

-- what holds where none of them refuses, whatever the tables have
pub record HasRoom (k : Kind) (row : OrgRow) (title : List ℕ) (named : Option (List ℕ)) : Type 0 where
  pub name : IsTrue (is_name title)
  pub few : kind_count k row < limit_number (kind_limit k)
  pub ids : row.counter < limit_number limit.Ids
  pub role : IfSome named (λ i. IsTrue (is_id i))

-- ---- what a new one is given

-- the organisation's row with it, the next id, and the role that the text names
pub record IsDrawn (k : Kind) (org : ℕ) (t : Tenant) (text : Option (List ℕ)) (d : Drawn) : Type 0 where
  pub row : d.org ≡ one_more k (org_of org t)
  pub id : d.id ≡ next_id t (kind_prefix k)
  pub role : d.role ≡ option_map spelled_id text

-- rows can have it, and the name
pub record FitsDrawn (title : List ℕ) (d : Drawn) : Type 0 where
  pub org : FitsForm org_form d.org
  pub name : IsTrue (is_name title)
  pub id : IsTrue (is_id d.id)
  pub role : IfSome d.role (λ i. IsTrue (is_id i))
