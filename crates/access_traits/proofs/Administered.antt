-- The level of an administrator is the model's.
use Rattle.std.proofs.Common.{◌≡◌, ◌∙◌, ℕ, Bool, true, false, cond, List, [], ◌∷◌, is_some, Option, Some, None, refl, sym, ap, subst, inl, inr}
use Rattle.std.specs.Prelude.{Result, Ok, Err, filter}
use Rattle.std.specs.Option.{option_and_then}
use Rattle.record_read.proofs.Standing.{found_of}
use Rattle.store_kv.specs.Tables.{Tables}
use Rattle.store_rows.specs.declared.fail.StoreFail.{StoreFail}
use Rattle.store_rows.specs.declared.fail.StoreFail.TheVariants.{Damaged, Keeper, Memory}
use Rattle.model.specs.Cases.{in_case}
use Rattle.model.specs.Levels.{at_least, can_read, level}
use Rattle.model.specs.Membership.{Has}
use Rattle.model.specs.Objects.{is_of, record_at, records_of}
use Rattle.model.specs.Rights.{record_of_object}
use Rattle.model.specs.Sound.{IsSound}
use Rattle.model.specs.Tenant.{Tenant, User}
use Rattle.model.specs.declared.record.Record.{Record}
use Rattle.store_abstraction.specs.Local.{FindsIn}
use Rattle.base_value.specs.declared.sharing.Level.{Level}
use Rattle.base_value.specs.declared.sharing.Level.TheVariants.{Full, Nothing, Read}
use Rattle.access_traits.specs.Rights.{FindsFor, level_there}
use Rattle.access_traits.specs.inner.Administering.{level_if}

-- what `model` says of administrators
abbrev pub HasAll : Type 0
HasAll = (t : Tenant) (u : User) (r : Record) → IsSound t → u.admin ≡ true → Has t.records r → level t u r ≡ Full

level_so : HasAll → (t : Tenant) (u : User) (n : ℕ) (id : List ℕ) → IsSound t → u.admin ≡ true → (b : Bool) → b ≡ is_some (record_of_object t n id)
    → cond b Full Nothing ≡ level_there t u n id
level_so all t u n id sound admin b e = ap (λ (x : Bool). cond x Full Nothing) e ∙ by (record_of_object t n id) refl
  where
    by : (x : Option Record) → record_of_object t n id ≡ x → cond (is_some x) Full Nothing ≡ in_case x Nothing (level t u)
    by None e = refl
    by (Some r) e = sym (all t u r sound admin (found_of t n id r (record_at t id) refl e).has)

as_cond : (b : Bool) → level_if (Ok b) ≡ Ok (cond b Full Nothing)
as_cond true = refl
as_cond false = refl

pub level_found : HasAll → (org n : ℕ) (id : List ℕ) (m : Tables) (there : Result Bool StoreFail) (result : Result Level StoreFail) → result ≡ level_if there
    → FindsIn org (λ q t. is_some (option_and_then (λ u. record_of_object u n id) t)) m there
    → FindsFor org (λ t u. u.admin ≡ true) (λ t u. level_there t u n id) m result
level_found all org n id m there result is h = subst (FindsFor org (λ t u. u.admin ≡ true) (λ t u. level_there t u n id) m) (sym is) (by there h)
  where
    by : (there : Result Bool StoreFail) → FindsIn org (λ q t. is_some (option_and_then (λ u. record_of_object u n id) t)) m there
        → FindsFor org (λ t u. u.admin ≡ true) (λ t u. level_there t u n id) m (level_if there)
    by (Ok b) h =
        subst (FindsFor org (λ t u. u.admin ≡ true) (λ t u. level_there t u n id) m) (sym (as_cond b))
        (λ q t u s admin. level_so all t u n id s.sound admin b (h q (Some t) s))
    by (Err Damaged) h = λ q t u s admin. h q (Some t) s
    by (Err Keeper) h = tt
    by (Err Memory) h = tt

-- a record of an object is one of the tenant's
has_of : (n : ℕ) (rs : List Record) (r : Record) → Has (filter (is_of n) rs) r → Has rs r
has_of n [] r h = h
has_of n (x ∷ rs) r h = by (has_of n rs r) (is_of n x) h
  where
    by : (Has (filter (is_of n) rs) r → Has rs r) → (b : Bool) → Has (cond b (x ∷ filter (is_of n) rs) (filter (is_of n) rs)) r → Has (x ∷ rs) r
    by rest true (inl e) = inl e
    by rest true (inr h) = inr (rest h)
    by rest false h = inr (rest h)

pub reads : HasAll → (t : Tenant) (u : User) (n : ℕ) (r : Record) → IsSound t → u.admin ≡ true → Has (records_of t n) r → true ≡ can_read t u r
reads all t u n r sound admin h = sym (ap (λ (l : Level). at_least Read l) (all t u r sound admin (has_of n t.records r h)))
