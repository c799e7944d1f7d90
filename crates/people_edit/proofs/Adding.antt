-- The verdict on a new organisation.
use Rattle.std.proofs.Common.{◌≡◌, ℕ, ◌+◌, ◌<◌, ◌≤◌, true, false, refl, List, length, Ok, Err, ◌∙◌, sym, ap, subst, arith}
use Rattle.std.specs.Prelude.{nat_le}
use Rattle.std.proofs.lemmas.Bool.Decides.{nat_tests}
use Rattle.store_kv.specs.Tables.{Tables}
use Rattle.model.specs.Limits.{limit_number}
use Rattle.model.specs.Organisations.{org_verdict, with_org}
use Rattle.model.specs.World.{World}
use Rattle.people_edit.specs.People.{with_rows}
use Rattle.model.specs.declared.limit.Limit.TheVariants as limit
use Rattle.model.specs.declared.refusal.Refusal.TheVariants.{LimitExceeded}
use Rattle.store_abstraction.specs.Operations.{Edits}
use Rattle.store_abstraction.specs.Stands.{Stands}

not_full : (n : ℕ) → n < limit_number limit.Organisations → nat_le (limit_number limit.Organisations) n ≡ false
not_full n h = grind (arith, nat_tests)

pub added : (m after : Tables) (w : World) (name digest : List ℕ) (count : ℕ) → count ≡ length w → length w < limit_number limit.Organisations → Stands (with_rows (length w + 1) name digest m) (with_org w name digest) → after ≡ with_rows (count + 1) name digest m
    → Edits (org_verdict name digest) w after (Ok (count + 1))
added m after w name digest count is few s e =
    let tables : after ≡ with_rows (length w + 1) name digest m = e ∙ ap (λ (n : ℕ). with_rows (n + 1) name digest m) is in
    (with_org w name digest, rw (not_full (length w) few, is) refl, subst (λ (t : Tables). Stands t (with_org w name digest)) (sym tables) s)

-- one more would be too many
pub full : (w : World) (name digest : List ℕ) (count : ℕ) → count ≡ length w → limit_number limit.Organisations ≤ count → org_verdict name digest w ≡ Err (LimitExceeded limit.Organisations)
full w name digest count is many = rw (is_full_when (length w) (omega (arith, is, many))) refl
  where
    is_full_when : (n : ℕ) → limit_number limit.Organisations ≤ n → nat_le (limit_number limit.Organisations) n ≡ true
    is_full_when n h = grind (arith, nat_tests)
