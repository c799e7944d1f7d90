-- What a user who doesn't administer sees of the records of one object.
-- Source: Salesforce, "Record-Level Security": a detail's access is its master's.
use Rattle.std.specs.Prelude.{◌≡◌, ℕ, zero, suc, Bool, true, false, List, [], ◌∷◌, Option, Some, Result, Ok, Err}
use Rattle.store_kv.specs.Tables.{Tables}
use Rattle.store_rows.specs.declared.fail.StoreFail.{StoreFail}
use Rattle.store_rows.specs.declared.fail.StoreFail.TheVariants.{Damaged, Keeper, Memory}
use Rattle.access_closure.specs.declared.people.People.{People}
use Rattle.access_user.specs.level.Own.{IsOwnLevels}
use Rattle.access_user.specs.declared.level.knowing.OwnLevels.{OwnLevels}
use Rattle.model.specs.declared.limit.Limit.TheVariants as limit
use Rattle.model.specs.Cases.{in_case}
use Rattle.model.specs.Limits.{limit_number}
use Rattle.model.specs.Objects.{object_numbered}
use Rattle.model.specs.Relationships.{master_of_object}
use Rattle.model.specs.Tenant.{Object, Tenant, User}
use Rattle.store_abstraction.specs.declared.layout.Layout.{Layout}
use Rattle.store_abstraction.specs.Layouts.{IsLayout}
use Rattle.store_abstraction.specs.Local.{StandsIn}
use Rattle.store_abstraction.specs.Plan.{OrgPlan}
use Rattle.access_user.specs.Granting.{IsUserRights}
use Rattle.access_user.specs.declared.rights.UserRights.{UserRights}
use Rattle.access_user.specs.declared.sight.UserSight.{UserSight}

-- the object to whose records one comes from those of another, by at most so many masters
abbrev pub topmost : ℕ → List Object → ℕ → ℕ
topmost zero os n = n
topmost (suc most) os n = in_case (master_of_object os n) n (λ f. topmost most os f.target)

-- a list has anything
abbrev pub has_any : {X : Type 0} → List X → Bool
has_any [] = false
has_any (x ∷ xs) = true

-- an organisation has manual shares; none where there is no such organisation
abbrev pub has_shares : Option Tenant → Bool
has_shares t = in_case t false (λ u. has_any u.shares)

-- this is what is so of the user, who is one of these people, on all records of the object with this number, if there is one
abbrev pub OwnAt : People → Tenant → User → (object : ℕ) → OwnLevels → Type 0
OwnAt people t u n own = (o : Object) → object_numbered t n ≡ Some o → IsOwnLevels people t u n o own

-- by these rights this is what the user sees of the records of the object with this number: the levels on its topmost masters are known,
-- and whether there may be manual shares
pub record IsSight (t : Tenant) (u : User) (n : ℕ) (s : UserSight) : Type 0 where
  pub rights : IsUserRights t u s.rights.now
  pub own : OwnAt s.rights.now.sharer.people t u (topmost (limit_number limit.DetailLevels) t.objects n) s.own
  pub shares : s.shared ≡ false → t.shares ≡ []

-- what is made is the sight by this layout of the user whose rights they are, of each tenant for which the organisation's rows stand and
-- whose layout it is, and such are never damaged
abbrev pub FindsSight : UserRights → Layout → Tables → Result UserSight StoreFail → Type 0
FindsSight rights l m (Ok s) =
    (q : OrgPlan) (t : Tenant) (u : User) → StandsIn l.org q m (Some t) → IsLayout q t l → IsUserRights t u rights → IsSight t u l.object s
FindsSight rights l m (Err Damaged) =
    (q : OrgPlan) (t : Tenant) (u : User) → StandsIn l.org q m (Some t) → IsLayout q t l → IsUserRights t u rights → ⊥
FindsSight rights l m (Err Keeper) = Unit {0}
FindsSight rights l m (Err Memory) = Unit {0}
