-- Keyrings: the principals that reach a user, and whose records are the user's.
use Rattle.std.specs.Prelude.{◌≡◌, ℕ, List, map}
use Rattle.model.specs.Membership.{Has, is_member, reaches}
use Rattle.model.specs.Sound.{IsSound}
use Rattle.model.specs.Tenant.{Tenant, User}
use Rattle.store_abstraction.specs.Metadata.{group_of, role_of, user_of}
use Rattle.base_value.specs.declared.sharing.Principal.{Principal}
use Rattle.access_closure.specs.declared.keyring.Keyring.{Keyring}
use Rattle.access_closure.specs.declared.membership.Membership.{Membership}
use Rattle.access_closure.specs.declared.people.People.{People}
use Rattle.access_closure.specs.Held.{is_held}

-- these are the rows of the people of the organisation with this number
pub record ArePeople (org : ℕ) (t : Tenant) (people : People) : Type 0 where
  pub users : people.users.items ≡ map (user_of org) t.users
  pub roles : people.roles.items ≡ map (role_of org) t.roles
  pub groups : people.groups.items ≡ map (group_of org) t.groups

-- they are those of a sound organisation, and this is one of its users
pub record IsUserAmong (org : ℕ) (t : Tenant) (u : User) (people : People) : Type 0 where
  pub rows : ArePeople org t people
  pub sound : IsSound t
  pub user : Has t.users u

-- the keyring holds what reaches the user with this id, whichever organisation has these people
pub record IsKeyringOf (people : People) (i : List ℕ) (k : Keyring) : Type 0 where
  pub held : (org : ℕ) (t : Tenant) (u : User) → IsUserAmong org t u people → u.id ≡ i
      → (p : Principal) → is_held people k.ring p ≡ reaches t p u

-- it holds what the user with this id is a member of
pub record IsMembershipOf (people : People) (i : List ℕ) (m : Membership) : Type 0 where
  pub members : (org : ℕ) (t : Tenant) (u : User) → IsUserAmong org t u people → u.id ≡ i
      → (p : Principal) → is_held people m.ring p ≡ is_member t u p
