-- A small organisation for rows worked by hand: who may do what with its deals. A reader of the rules may pass it over.
use Rattle.std.specs.Prelude.{ℕ, Bool, true, false, List, [], ◌∷◌, codes, Option, Some, None, pos}
use Rattle.base_value.specs.Id.{made}
use Rattle.base_value.specs.declared.job.RuleState.{RuleState}
use Rattle.base_value.specs.declared.sharing.Access.{Access}
use Rattle.base_value.specs.declared.sharing.Access.TheVariants as access
use Rattle.base_value.specs.declared.sharing.Level.{Level}
use Rattle.base_value.specs.declared.sharing.Level.TheVariants.{Read}
use Rattle.base_value.specs.declared.sharing.Principal.{Principal}
use Rattle.base_value.specs.declared.sharing.Principal.TheVariants as to
use Rattle.base_value.specs.declared.value.FieldType.{FieldType}
use Rattle.base_value.specs.declared.value.FieldType.TheVariants as type
use Rattle.base_value.specs.declared.value.Value.{Value}
use Rattle.base_value.specs.declared.value.Value.TheVariants as value
use Rattle.model.specs.declared.record.Record.{Record}
use Rattle.model.specs.Objects.{record_prefix}
use Rattle.model.specs.Tenant.{Field, Group, Object, Role, Share, SharingRule, Source, meets, Tenant, User}
use Rattle.model.specs.World.{group_prefix, role_prefix, user_prefix}

-- ---- people: roles CEO (1), VP below CEO (2), Rep below VP (3), Other below CEO (4)
abbrev pub ceo : List ℕ
ceo = made role_prefix 1

abbrev pub vp : List ℕ
vp = made role_prefix 2

abbrev pub rep : List ℕ
rep = made role_prefix 3

abbrev pub other : List ℕ
other = made role_prefix 4

abbrev pub role : List ℕ → List ℕ → Option (List ℕ) → Role
role id name parent = record { id = id; name = name; parent = parent }

abbrev pub roles : List Role
roles =
    role ceo (codes "CEO") None ∷ role vp (codes "VP") (Some ceo)
    ∷ role rep (codes "Rep") (Some vp) ∷ role other (codes "Other") (Some ceo) ∷ []

abbrev pub user : ℕ → List ℕ → Option (List ℕ) → (admin : Bool) → User
user n name role admin = record { id = made user_prefix n; name = name; digest = []; role = role; admin = admin; active = true }

-- an administrator without a role; Ron in Rep, Cea in CEO, Otto in Other
abbrev pub admin : User
admin = user 0 (codes "Acme") None true

abbrev pub ron : User
ron = user 5 (codes "Ron") (Some rep) false

abbrev pub cea : User
cea = user 6 (codes "Cea") (Some ceo) false

abbrev pub otto : User
otto = user 7 (codes "Otto") (Some other) false

-- groups within each other: the first (8) has Otto and the second (9), the second has the first
abbrev pub g1 : List ℕ
g1 = made group_prefix 8

abbrev pub g2 : List ℕ
g2 = made group_prefix 9

abbrev pub groups : List Group
groups =
    record { id = g1; name = codes "G1"; members = to.User otto.id ∷ to.Group g2 ∷ [] }
    ∷ record { id = g2; name = codes "G2"; members = to.Group g1 ∷ [] }
    ∷ []

-- ---- objects and records
abbrev pub field : List ℕ → FieldType → (child : Option (List ℕ)) → Field
field name kind child = record { name = name; kind = kind; required = false; unique = false; indexed = false; child = child }

abbrev pub object : List ℕ → Access → List Field → Object
object name access fields = record { name = name; access = access; hierarchy = true; fields = fields; validation_rules = [] }

-- deals (0) with a stage, their lines (1), and parts (2) of lines
abbrev pub deals : Access → (hierarchy : Bool) → List Object
deals default hierarchy =
    record (object (codes "Deal__c") default (field (codes "Stage__c") (type.Picklist (codes "Open" ∷ codes "Shut" ∷ [])) None ∷ [])) {
      hierarchy = hierarchy;
    }
    ∷ object (codes "Line__c") access.ControlledByParent (field (codes "Deal__c") (type.Master 0) (Some (codes "Lines__r")) ∷ [])
    ∷ object (codes "Part__c") access.ControlledByParent (field (codes "Line__c") (type.Master 1) (Some (codes "Parts__r")) ∷ [])
    ∷ []

-- the id of an object's record that was made of this number
abbrev pub id_of : ℕ → ℕ → List ℕ
id_of object n = made (record_prefix object) n

abbrev pub item : List ℕ → Option (List ℕ) → List Value → Record
item id owner values = record { id = id; owner = owner; created = pos 0; modified = pos 0; values = values }

-- a deal of this user in this stage
abbrev pub deal : ℕ → User → List ℕ → Record
deal n owner stage = item (id_of 0 n) (Some owner.id) (value.Text (codes "Ships") ∷ value.Text stage ∷ [])

-- Ron's deal, a line of it, and a part of that
abbrev pub d1 : Record
d1 = deal 8 ron (codes "Shut")

abbrev pub line : Record
line = item (id_of 1 11) None (value.Null ∷ value.Ref d1.id ∷ [])

abbrev pub part : Record
part = item (id_of 2 12) None (value.Null ∷ value.Ref line.id ∷ [])

abbrev pub tenant : List Object → List SharingRule → List Record → List Share → Tenant
tenant objects rules records shares =
    record {
      name = codes "Acme";
      counter = 20;
      rule_numbers = 1;
      objects = objects;
      users = admin ∷ ron ∷ cea ∷ otto ∷ [];
      roles = roles;
      groups = groups;
      sharing_rules = rules;
      records = records;
      shares = shares;
      job = None;
    }

-- nothing is shared, and this is the default access
abbrev pub by_default : Access → Tenant
by_default default = tenant (deals default true) [] (d1 ∷ line ∷ part ∷ []) []

abbrev pub private : Tenant
private = by_default access.Private

-- one rule, over these records
abbrev pub ruled : Source → Principal → RuleState → List Record → Tenant
ruled source whom state records =
    tenant
    (deals access.Private true)
    (record { name = codes "R"; number = 1; object = 0; source = source; to = whom; level = Read; state = state; cursor = None } ∷ [])
    records
    []

-- the text of a criteria rule
abbrev pub is_open : List ℕ
is_open = codes "Stage__c = \"Open\""

-- open deals are shared with the second group; Ron has a deal in this stage
abbrev pub staged : List ℕ → RuleState → List ℕ → Tenant
staged text state stage = ruled (meets text) (to.Group g2) state (deal 10 ron stage ∷ [])

-- Cea's deal now, or still Ron's, with these shares
abbrev pub shared : User → List Share → Tenant
shared owner shares = tenant (deals access.Private true) [] (deal 8 owner (codes "Shut") ∷ line ∷ part ∷ []) shares

-- Otto may edit the deal, or read it
abbrev pub to_otto : Level → List Share
to_otto level = record { item = d1.id; to = to.User otto.id; level = level } ∷ []

-- the role hierarchy doesn't count for deals: Ron's, with these shares
abbrev pub apart : List Share → Tenant
apart shares = tenant (deals access.Private false) [] (d1 ∷ line ∷ part ∷ []) shares

-- Ron's deal is shared with who is below the CEO, or in Rep, for reading
abbrev pub shared_with : Principal → List Share
shared_with whom = record { item = d1.id; to = whom; level = Read } ∷ []
