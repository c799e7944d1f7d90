-- The rights of a user who doesn't administer, as they are read from the tables.
-- Source: Salesforce, "Record-Level Security", "Sharing Rules".
use Rattle.std.specs.Prelude.{◌≡◌, ℕ, false, List, map, Option, Some, Result, Ok, Err}
use Rattle.store_kv.specs.Tables.{Tables}
use Rattle.store_rows.specs.declared.fail.StoreFail.{StoreFail}
use Rattle.store_rows.specs.declared.fail.StoreFail.TheVariants.{Damaged, Keeper, Memory}
use Rattle.model.specs.Membership.{Has}
use Rattle.model.specs.Sound.{IsSound}
use Rattle.model.specs.Tenant.{Tenant, User}
use Rattle.model.specs.World.{user_at}
use Rattle.store_abstraction.specs.Local.{StandsIn}
use Rattle.store_abstraction.specs.Metadata.{sharing_of}
use Rattle.store_abstraction.specs.Plan.{OrgPlan}
use Rattle.access_closure.specs.Reading.{IsSharer}
use Rattle.access_user.specs.declared.rights.UserRights.{UserRights}

-- these are the rights of a user of a sound organisation who doesn't administer
pub record IsUserRights (t : Tenant) (u : User) (r : UserRights) : Type 0 where
  pub user : r.user ≡ u.id
  pub sharer : IsSharer r.org u.id t r.sharer
  pub rules : r.rules.items ≡ map (sharing_of r.org) t.sharing_rules
  pub sound : IsSound t
  pub there : Has t.users u
  pub plain : u.admin ≡ false

-- what is read are the rights of the user with this id of each tenant for which the organisation's rows stand, if there is one and
-- no administrator, and where they stand for one or none they are never damaged
abbrev pub FindsRights : (org : ℕ) → (id : List ℕ) → Tables → Result UserRights StoreFail → Type 0
FindsRights n i m (Ok r) =
    (q : OrgPlan) (t : Tenant) (u : User) → StandsIn n q m (Some t) → user_at t.users i ≡ Some u → u.admin ≡ false → IsUserRights t u r
FindsRights n i m (Err Damaged) = (q : OrgPlan) (t : Option Tenant) → StandsIn n q m t → ⊥
FindsRights n i m (Err Keeper) = Unit {0}
FindsRights n i m (Err Memory) = Unit {0}
