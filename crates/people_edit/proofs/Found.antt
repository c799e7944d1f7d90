-- Who calls, by what was read of the user who is named.
use Rattle.std.proofs.Common.{◌≡◌, ◌∙◌, ◌<◌, ◌≤◌, ◌^◌, Bool, true, false, ◌&&◌, Option, Some, None, Result, Ok, Err, refl, sym, ap, subst, arith}
use Rattle.std.specs.Prelude.{IfSome, if◌then◌else◌}
use Rattle.std.specs.Option.{option_and_then, option_map}
use Rattle.std.specs.Str.{bytes_eq}
use Rattle.sha2.specs.Sha256.{sha256}
use Rattle.store_kv.specs.Tables.{Tables}
use Rattle.store_rows.specs.declared.fail.StoreFail.{StoreFail}
use Rattle.store_rows.specs.declared.fail.StoreFail.TheVariants.{Damaged, Keeper, Memory}
use Rattle.store_rows.specs.declared.user.UserRow.{UserRow}
use Rattle.model.specs.declared.caller.Caller.{Caller}
use Rattle.model.specs.Callers.{Named, admitted}
use Rattle.model.specs.Tenant.{Tenant, User}
use Rattle.model.specs.World.{user_at, users_in}
use Rattle.people_edit.specs.People.{FindsNamed, admitted_row, caller_among}
use Rattle.store_abstraction.specs.Local.{FindsIn}
use Rattle.store_abstraction.specs.Metadata.{user_of}

abbrev Returned : Type 0
Returned = Result (Option Caller) StoreFail

module _ (n : Named) (m : Tables) where
  -- the row of the user who is named
  abbrev row_of : Option Tenant → Option UserRow
  row_of t = option_map (user_of n.org) (user_at (users_in t) n.user)

  among_user : (o : Option User) (row : UserRow) → Some row ≡ option_map (user_of n.org) o → admitted_row n.org (sha256 n.secret) row ≡ option_and_then (admitted n) o
  among_user None row e = absurd cc
  among_user (Some u) row e = ap (admitted_row n.org (sha256 n.secret)) (is row (user_of n.org u) e)
    where
      is : (x y : UserRow) → Some x ≡ Some y → x ≡ y
      is x y e = cc

  among_row : (t : Option Tenant) (row : UserRow) → Some row ≡ row_of t → admitted_row n.org (sha256 n.secret) row ≡ caller_among n t
  among_row None row e = absurd cc
  among_row (Some t) row e = among_user (user_at t.users n.user) row e

  no_user : (o : Option User) → None ≡ option_map (user_of n.org) o → None ≡ option_and_then (admitted n) o
  no_user None e = refl
  no_user (Some u) e = absurd cc

  among_none : (t : Option Tenant) → None ≡ row_of t → None ≡ caller_among n t
  among_none None e = refl
  among_none (Some t) e = no_user (user_at t.users n.user) e

  admitted_org : (row : UserRow) → IfSome (admitted_row n.org (sha256 n.secret) row) (λ c. c.org ≡ n.org)
  admitted_org row = by (row.active && bytes_eq row.digest (sha256 n.secret))
    where
      by : (b : Bool) → IfSome (if b then Some (record { org = n.org; user = row.id; admin = row.admin }) else None) (λ (c : Caller). c.org ≡ n.org)
      by true = refl
      by false = tt

  -- the user was found
  pub found_user : (row : UserRow) (c : Option Caller) → n.org < 2 ^ 32 → c ≡ admitted_row n.org (sha256 n.secret) row → FindsIn n.org (λ q t. row_of t) m (Ok (Some row)) → FindsNamed n m (Ok c)
  found_user row c lo is h = record {
    own = subst (λ (o : Option Caller). IfSome o (λ c. c.org ≡ n.org)) (sym is) (admitted_org row);
    none = λ hi. absurd (omega (arith, lo, hi));
    finds = λ _ q t s. is ∙ among_row t row (h q t s);
  }

  -- there is no such user
  pub found_nobody : n.org < 2 ^ 32 → FindsIn n.org (λ q t. row_of t) m (Ok None) → FindsNamed n m (Ok None)
  found_nobody lo h = record { own = tt; none = λ hi. absurd (omega (arith, lo, hi)); finds = λ _ q t s. among_none t (h q t s) }

  failed : (f : StoreFail) → FindsIn n.org (λ q t. row_of t) m (Err f) → FindsIn n.org (λ q t. caller_among n t) m (Err f)
  failed Damaged h = h
  failed Keeper h = tt
  failed Memory h = tt

  pub found_failed : (f : StoreFail) → n.org < 2 ^ 32 → FindsIn n.org (λ q t. row_of t) m (Err f) → FindsNamed n m (Err f)
  found_failed f lo h = record { own = tt; none = λ hi. absurd (omega (arith, lo, hi)); finds = λ _. failed f h }

  -- no organisation has this number
  pub found_beyond : 2 ^ 32 ≤ n.org → FindsNamed n m (Ok None)
  found_beyond hi = record { own = tt; none = λ _. refl; finds = λ lo. absurd (omega (arith, lo, hi)) }
