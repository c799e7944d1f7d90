-- The user with an id, found among the rows of the organisation.
use Rattle.std.proofs.Common.{◌≡◌, ℕ, ◌<◌, ◌≤◌, ◌^◌, zero, suc, List, [], ◌∷◌, length, Option, Some, None, Result, Ok, Err, refl, sym, ap, ◌∙◌, arith}
use Rattle.std.specs.Option.{option_map}
use Rattle.store_kv.specs.Tables.{Tables}
use Rattle.store_rows.specs.declared.fail.StoreFail.{StoreFail}
use Rattle.store_rows.specs.declared.fail.StoreFail.TheVariants.{Damaged, Keeper, Memory}
use Rattle.store_rows.specs.declared.user.UserRow.{UserRow}
use Rattle.model.specs.Tenant.{User}
use Rattle.model.specs.World.{World, tenant_at, user_at, user_in, users_in}
use Rattle.store_abstraction.specs.declared.fail.EditFail.TheVariants.{Store}
use Rattle.store_abstraction.specs.Local.{FindsIn, StandsIn}
use Rattle.store_abstraction.specs.Metadata.{user_of}
use Rattle.store_abstraction.specs.Plan.{Plan}
use Rattle.store_abstraction.specs.Stands.{Stands, StandsBy}
use Rattle.cmd_user_set.specs.UserSet.{user_with_id}
use Rattle.cmd_user_set.specs.inner.Named.{FindsUser}

-- no organisation has such a number
beyond : (w : World) (n : ℕ) → length w < n → tenant_at w n ≡ None
beyond w zero h = refl
beyond [] (suc n) h = refl
beyond (x ∷ w) (suc zero) h = absurd (omega arith)
beyond (x ∷ w) (suc (suc n)) h = beyond w (suc n) (omega (arith, h))

pub nobody_beyond : (m : Tables) (w : World) (s : Stands m w) (n : ℕ) (i : List ℕ) → 2 ^ 32 ≤ n → user_with_id w (n, i) ≡ None
nobody_beyond m w s n i hi = ap (λ t. option_map (λ u. (n, i)) (user_at (users_in t) i)) (beyond w n (omega (arith, hi, s.1.world.few)))

-- what `store_abstraction` says of each organisation of a world
abbrev pub EachStands : Type 0
EachStands = (p : Plan) (m : Tables) (w : World) (n : ℕ) → n < 2 ^ 32 → StandsBy p m w → StandsIn n (p.org n) m (tenant_at w n)

module _ (each : EachStands) (m : Tables) (w : World) (s : Stands m w) (n : ℕ) (i : List ℕ) (lo : n < 2 ^ 32) where
  abbrev Found : Result (Option UserRow) StoreFail → Type 0
  Found r = FindsIn n (λ q t. option_map (user_of n) (user_at (users_in t) i)) m r

  pub some_found : (found : Option UserRow) (row : UserRow) → found ≡ Some row → Found (Ok found) → user_with_id w (n, i) ≡ Some (n, i)
  some_found found row was h = by (user_in w n i) (sym was ∙ h (s.0.org n) (tenant_at w n) (each s.0 m w n lo s.1))
    where
      by : (o : Option User) → Some row ≡ option_map (user_of n) o → option_map {U = ℕ × List ℕ} (λ u. (n, i)) o ≡ Some (n, i)
      by None e = absurd cc
      by (Some u) e = refl

  pub none_found : (found : Option UserRow) → found ≡ None → Found (Ok found) → user_with_id w (n, i) ≡ None
  none_found found was h = by (user_in w n i) (sym was ∙ h (s.0.org n) (tenant_at w n) (each s.0 m w n lo s.1))
    where
      by : (o : Option User) → ◌≡◌ {A = Option UserRow} None (option_map (user_of n) o) → option_map {U = ℕ × List ℕ} (λ u. (n, i)) o ≡ None
      by None e = refl
      by (Some u) e = absurd cc

  pub not_found : (named : Option (ℕ × List ℕ)) (e : StoreFail) → Found (Err e) → FindsUser named (Err (Store e))
  not_found named Damaged h = h (s.0.org n) (tenant_at w n) (each s.0 m w n lo s.1)
  not_found named Keeper h = tt
  not_found named Memory h = tt
