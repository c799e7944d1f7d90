-- A role and a group that are to end, for rows worked by hand. A reader of the rules may pass them over.
use Rattle.std.specs.Prelude.{ℕ, List, [], ◌∷◌, ◌++◌, codes, None}
use Rattle.base_value.specs.declared.sharing.Level.TheVariants.{Read}
use Rattle.model.specs.declared.people_bodies.PrincipalKind.TheVariants as kind
use Rattle.model.specs.declared.people_bodies.Spelled.{Spelled}
use Rattle.model.specs.declared.sharing_bodies.SpelledSource.TheVariants.{Owner}
use Rattle.model.specs.Tenant.{Tenant}
use Rattle.model_requests.specs.Requests.{adds_group, adds_role, adds_sharing_rule, creates, removes_group, removes_role, sets_group, shares}
use Rattle.model_requests.specs.WorkedRefusals.{no}
use Rattle.model_requests.specs.WorkedRequests.{Call, add_deals, by_admin, called, deal_object}
use Rattle.model_requests.specs.WorkedSharing.{members_alone, principal_text}

-- the statuses and the bodies of the replies to these calls, each after those before it
abbrev pub said_each : Tenant → List Call → List (ℕ × List ℕ)
said_each t [] = []
said_each t (c ∷ cs) = let r = called t c in (r.0.status, r.0.body) ∷ said_each r.1 cs

-- refused, as this member of such things names it
abbrev pub named_by : (things member : List ℕ) → ℕ × List ℕ
named_by things member = no (codes "DELETE_FAILED") (things ++ codes "." ++ member ++ codes ": the record is referred to")

abbrev pub end_role : (id : List ℕ) → Call
end_role id = by_admin (removes_role id)

abbrev pub end_group : (id : List ℕ) → Call
end_group id = by_admin (removes_group id)

-- ---- role 1 and group 2 of a fresh organisation

abbrev pub spare : List ℕ
spare = codes "00E000000000001"

abbrev pub pool : List ℕ
pool = codes "00G000000000002"

abbrev pub spare_role : Spelled
spare_role = principal_text kind.Role spare

abbrev pub below_spare : Spelled
below_spare = principal_text kind.Subordinates spare

abbrev pub pool_group : Spelled
pool_group = principal_text kind.Group pool

-- the group's members
abbrev pub pool_of : List Spelled → Call
pool_of members = by_admin (sets_group pool (members_alone members))

abbrev pub spare_made : List Call
spare_made = by_admin (adds_role (codes "Spare") None) ∷ by_admin (adds_group (codes "Pool")) ∷ []

-- with another group, of which group 2 is a member
abbrev pub pool_nested : List Call
pool_nested =
    spare_made ++ by_admin (adds_group (codes "Outer")) ∷ by_admin (sets_group (codes "00G000000000003") (members_alone (pool_group ∷ []))) ∷ []

-- with a rule on deals of the one, for the other
abbrev pub deals_shared : (from to : Spelled) → List Call
deals_shared from to =
    spare_made
    ++ add_deals
    ∷ by_admin
    (adds_sharing_rule (record {
      members = codes "object" ∷ codes "name" ∷ codes "from" ∷ codes "to" ∷ codes "level" ∷ [];
      object = deal_object;
      name = codes "Deals";
      source = Owner from;
      to = to;
      level = Read;
    }))
    ∷ []

-- with a deal (3) that is shared with role 1
abbrev pub spare_shared : List Call
spare_shared =
    spare_made
    ++ add_deals
    ∷ by_admin (creates deal_object [])
    ∷ by_admin (shares (record { members = codes "record" ∷ codes "to" ∷ codes "level" ∷ []; item = codes "a00000000000003"; to = spare_role; level = Read }))
    ∷ []
