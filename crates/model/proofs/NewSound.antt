-- A new organisation is sound.
use Rattle.std.proofs.Common.{◌≡◌, ℕ, Bool, true, false, ◌||◌, cond, IsTrue, List, [], length, Some, None, refl, sym, ◌∙◌, arith}
use Rattle.std.specs.Prelude.{is_some}
use Rattle.std.specs.Str.{bytes_eq}
use Rattle.std.proofs.lemmas.Slice.Eq.{bytes_eq-Decides}
use Rattle.model.specs.Known.{known, names_any}
use Rattle.model.specs.Membership.{Below, one_step, more_steps}
use Rattle.model.specs.Organisations.{administrator, first_user, fresh}
use Rattle.model.specs.Sound.{IsSound, is_name}
use Rattle.model.specs.SoundPeople.{parent_in}

pub fresh_sound : (name digest : List ℕ) → IsTrue (is_name name) → length digest ≡ 32 → IsSound (fresh name digest)
fresh_sound name digest good size = record {
  name = good;
  counter = omega arith;
  numbers = λ i j hi hj e. one i hi ∙ sym (one j hj);
  users = record { each = (record { id = (0, omega arith, refl); name = good; digest = size; role = tt }, tt); rise = tt; few = omega arith; administered = refl };
  roles = record { each = tt; rise = tt; few = omega arith; no_cycle = λ a h. no_step a a h };
  groups = record { each = tt; rise = tt; few = omega arith };
  metadata = record { objects = tt; names = refl; few = omega arith };
  records = record { each = tt; rise = tt; unique = λ n place o f there at unique r s hr. absurd hr; few = omega arith; few_of = λ n. omega arith };
  rules = record { each = tt; rise = tt; numbers = λ r s hr. absurd hr; few = omega arith; few_drawn = omega arith };
  shares = record { each = tt; rise = tt; few = λ id. omega arith };
  job = tt;
  formulas = record { validations = refl; criteria = refl; unnamed = tt };
}
  where
    -- there is one id
    one : (i : List ℕ) → IsTrue (names_any (known (fresh name digest)) i) → i ≡ first_user
    one i h = (bytes_eq-Decides i first_user).0 (only (bytes_eq i first_user) h)
      where
        only : (b : Bool) → (is_some (cond b (Some (administrator name digest)) None) || false) ≡ true → b ≡ true
        only true e = refl
        only false e = e

    -- no role has a parent
    no_step : (a b : List ℕ) → Below (parent_in []) a b → ⊥
    no_step a b (one_step e) = absurd cc
    no_step a b (more_steps e h) = absurd cc
