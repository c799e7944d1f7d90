-- Where the role hierarchy doesn't count: who is a member of a user is that user alone.
use Rattle.std.proofs.Common.{◌≡◌, ◌∙◌, ℕ, Bool, true, false, ◌||◌, ◌&&◌, cond, List, [], ◌∷◌, bytes_eq, Option, Some, None, refl, sym, ap, inl, inr}
use Rattle.std.proofs.Math.Bool.{or-false}
use Rattle.std.proofs.lemmas.Slice.Eq.{bytes_eq-Decides}
use Rattle.base_value.specs.declared.sharing.Principal.TheVariants as to
use Rattle.access_closure.specs.Keyrings.{IsUserAmong}
use Rattle.access_closure.specs.declared.reading.Sharer.{Sharer}
use Rattle.access_user.specs.level.Own.{IsSharerOf}
use Rattle.model.specs.Cases.{in_case}
use Rattle.model.specs.Membership.{Has, is_above, is_member}
use Rattle.model.specs.Tenant.{Tenant, User}
use Rattle.model.specs.World.{user_at}
use Rattle.access_user.proofs.Owners.{found}

-- by the keyring's people, the user is one of them
pub among : (org : ℕ) (t : Tenant) (u : User) (s : Sharer) → IsSharerOf org t u s → IsUserAmong org t u s.people
among org t u s is = record { rows = is.sharer.people; sound = is.sound; user = is.user }

-- some user has the id of one of them
having : (us : List User) (u : User) → Has us u → user_at us u.id ≡ None → ⊥
having [] u has e = absurd has
having (y ∷ us) u has e = by (having us u) (bytes_eq u.id y.id) refl e has
  where
    clash : ◌≡◌ {A = Option User} (Some y) None → ⊥
    clash e = cc

    apart : true ≡ false → ⊥
    apart e = cc

    by : (Has us u → user_at us u.id ≡ None → ⊥) → (b : Bool) → bytes_eq u.id y.id ≡ b → cond b (Some y) (user_at us u.id) ≡ None → Has (y ∷ us) u → ⊥
    by rest true is e has = absurd (clash e)
    by rest false is e (inl same) = absurd (apart (sym ((bytes_eq-Decides u.id y.id).1 (ap (λ (x : User). x.id) same)) ∙ is))
    by rest false is e (inr has) = rest has e

pub own_alone : (t : Tenant) (u : User) (i : List ℕ) → Has t.users u
    → is_member t u (to.User i) ≡ in_case (user_at t.users i) false (λ x. bytes_eq x.id u.id || (false && is_above t u x))
unfolding is_member
own_alone t u i has = by (user_at t.users i) refl
  where
    by : (o : Option User) → user_at t.users i ≡ o → bytes_eq i u.id ≡ in_case o false (λ x. bytes_eq x.id u.id || (false && is_above t u x))
    by None at = other (bytes_eq i u.id) refl
      where
        other : (b : Bool) → bytes_eq i u.id ≡ b → b ≡ false
        other false e = refl
        other true e = absurd (having t.users u has (sym (ap (user_at t.users) ((bytes_eq-Decides i u.id).0 e)) ∙ at))
    by (Some x) at = ap (λ (j : List ℕ). bytes_eq j u.id) (sym (found t.users i x at).1) ∙ sym (or-false (bytes_eq x.id u.id))
