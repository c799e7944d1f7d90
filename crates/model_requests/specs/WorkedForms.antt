-- Bodies for rows worked by hand. A reader of the rules may pass them over.
use Rattle.std.specs.Prelude.{ℕ, true, false, List, [], ◌∷◌, codes, None, Some, pos}
use Rattle.base_json.specs.declared.tree.Json.{Json}
use Rattle.base_json.specs.declared.tree.Json.TheVariants as json
use Rattle.base_json.specs.declared.tree.Num.TheVariants.{Exact}
use Rattle.base_value.specs.declared.sharing.Access.TheVariants as access
use Rattle.base_value.specs.declared.sharing.Level.TheVariants.{Edit}
use Rattle.model.specs.declared.people_bodies.PrincipalKind.TheVariants as kind
use Rattle.model.specs.Members.{Body}
use Rattle.model.specs.declared.metadata_bodies.NewObject.{NewObject}
use Rattle.model.specs.declared.people_bodies.UserChange.{UserChange}
use Rattle.model.specs.declared.sharing_bodies.NewShare.{NewShare}

-- a member that is a text
abbrev pub text_member : (name text : List ℕ) → List ℕ × Json
text_member name text = (name, json.Text text)

-- a member that is a number, as a count of 10^-8
abbrev pub number_member : (name : List ℕ) → (count : ℕ) → List ℕ × Json
number_member name count = (name, json.Number (Exact (pos count)))

-- a share of `r` with the user `x` at this level, and more
abbrev pub share_body : (level : List ℕ) → Body → Body
share_body level more =
    text_member (codes "to") (codes "user:x") ∷ text_member (codes "level") level ∷ text_member (codes "record") (codes "r") ∷ more

abbrev pub share_read : NewShare
share_read =
    record {
      members = codes "to" ∷ codes "level" ∷ codes "record" ∷ [];
      item = codes "r";
      to = record { kind = kind.User; text = codes "x" };
      level = Edit;
    }

abbrev pub user_body : (secret : List ℕ) → Body
user_body secret =
    text_member (codes "name") (codes "Ron")
    ∷ text_member (codes "secret") secret
    ∷ (codes "role", json.Null)
    ∷ (codes "admin", json.Bool false)
    ∷ []

-- a change of a user: to no role, and to another standing
abbrev pub change_body : Body
change_body = (codes "active", json.Bool false) ∷ (codes "role", json.Null) ∷ []

abbrev pub change_read : UserChange
change_read = record { role = Some None; name = None; secret = None; admin = None; active = Some false }

-- a private object, or one of another access
abbrev pub object_body : (access : List ℕ) → Body
object_body access = text_member (codes "access") access ∷ text_member (codes "name") (codes "A__c") ∷ []

abbrev pub private_object : NewObject
private_object = record { members = codes "access" ∷ codes "name" ∷ []; name = codes "A__c"; access = access.Private; hierarchy = true; master = None }

-- the member `hierarchy`, and an object for whose records the role hierarchy doesn't count
abbrev pub hierarchy_member : Json → List ℕ × Json
hierarchy_member value = (codes "hierarchy", value)

abbrev pub apart_object : NewObject
apart_object =
    record {
      members = codes "hierarchy" ∷ codes "access" ∷ codes "name" ∷ [];
      name = codes "A__c";
      access = access.Private;
      hierarchy = false;
      master = None;
    }

-- a type of this kind, and more
abbrev pub type_body : (kind : List ℕ) → Body → Body
type_body kind more = text_member (codes "kind") kind ∷ more

-- the two sources of a sharing rule
abbrev pub by_text : List ℕ × Json
by_text = text_member (codes "formula") (codes "TRUE")

abbrev pub from_role : List ℕ × Json
from_role = text_member (codes "from") (codes "role:r")

-- a sharing rule for a role, and more
abbrev pub rule_body : Body → Body
rule_body more =
    text_member (codes "object") (codes "A__c")
    ∷ text_member (codes "name") (codes "v")
    ∷ text_member (codes "to") (codes "role:r")
    ∷ text_member (codes "level") (codes "Read")
    ∷ more

-- a validation rule with this message
abbrev pub validation_body : (message : List ℕ) → Body
validation_body message =
    text_member (codes "object") (codes "A__c")
    ∷ text_member (codes "name") (codes "v")
    ∷ text_member (codes "formula") (codes "TRUE")
    ∷ text_member (codes "message") message
    ∷ []
