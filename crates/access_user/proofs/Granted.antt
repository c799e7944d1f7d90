-- What is read of a user's keyring and of the organisation's rules are the user's rights.
use Rattle.std.proofs.Common.{◌≡◌, ℕ, false, List, map, Some, sym, subst}
use Rattle.access_closure.specs.Reading.{IsSharer}
use Rattle.access_user.specs.level.Own.{IsSharerOf}
use Rattle.model.specs.Sound.{IsSound}
use Rattle.model.specs.SoundPeople.{IsSoundUser}
use Rattle.model.specs.Known.{known}
use Rattle.model.specs.Tenant.{Tenant, User}
use Rattle.model.specs.World.{user_at, user_id}
use Rattle.store_abstraction.specs.Metadata.{sharing_of}
use Rattle.store_abstraction.proofs.Found.{found_with_id}
use Rattle.access_user.specs.Granting.{IsUserRights}
use Rattle.access_user.specs.declared.rights.UserRights.{UserRights}
use Rattle.access_user.proofs.Masters.{having_has}

pub rights_are : (org : ℕ) (i : List ℕ) (t : Tenant) (u : User) (r : UserRights) → r.org ≡ org → r.user ≡ i → IsSharer org i t r.sharer
    → r.rules.items ≡ map (sharing_of org) t.sharing_rules → IsSound t → user_at t.users i ≡ Some u → u.admin ≡ false → IsUserRights t u r
rights_are org i t u r at user sharer rules sound there plain =
    let same : u.id ≡ i = (found_with_id user_id (IsSoundUser (known t)) t.users i u sound.users.each there).0 in
    record {
      user = subst (λ (j : List ℕ). r.user ≡ j) (sym same) user;
      sharer = subst (λ (n : ℕ). IsSharer n u.id t r.sharer) (sym at) (subst (λ (j : List ℕ). IsSharer org j t r.sharer) (sym same) sharer);
      rules = subst (λ (n : ℕ). r.rules.items ≡ map (sharing_of n) t.sharing_rules) (sym at) rules;
      sound = sound;
      there = having_has user_id t.users i u there;
      plain = plain;
    }

-- by them, the user's keyring with the people
pub sharer_of : (t : Tenant) (u : User) (r : UserRights) → IsUserRights t u r → IsSharerOf r.org t u r.sharer
sharer_of t u r granted = record { sharer = granted.sharer; sound = granted.sound; user = granted.there; plain = granted.plain }
