-- What the tables have at the places of one organisation, where it is a tenant or where there is none.
use Rattle.std.specs.Prelude.{◌≡◌, ℕ, ◌<◌, ◌-◌, ◌^◌, nat_eq, Bool, false, not, ◌&&◌, ◌==◌, if◌then◌else◌, List, Option, Some, None, IfSome, Result, Ok, Err}
use Rattle.std.specs.FinMap as map
use Rattle.std.specs.Option.{option_and_then, option_eq}
use Rattle.std.specs.Ordering.{is_ge}
use Rattle.store_kv.specs.Prefixes.{raised}
use Rattle.store_kv.specs.Tables.{Place, Tables, bytes_cmp, is_between}
use Rattle.store_rows.specs.declared.fail.StoreFail.{StoreFail}
use Rattle.store_rows.specs.declared.fail.StoreFail.TheVariants.{Damaged, Keeper, Memory}
use Rattle.store_rows.specs.Holds.{Holds}
use Rattle.store_rows.specs.Keys.{FitsKey, Key}
use Rattle.model.specs.Cases.{in_case}
use Rattle.model.specs.Sound.{IsSound}
use Rattle.model.specs.Tenant.{Tenant}
use Rattle.store_codec.specs.Plain.{number32}
use Rattle.store_abstraction.specs.Changes.{Change}
use Rattle.store_abstraction.specs.Plan.{FitsPlan, OrgPlan}
use Rattle.store_abstraction.specs.Stands.{all_tables, org_of_key, row_in}

-- ---- places

-- a key in the interval of those that begin with a prefix. It has no end where no key is above all of these
abbrev pub is_under : List ℕ → List ℕ → Bool
is_under prefix key = in_case (raised prefix) (is_ge (bytes_cmp key prefix)) (λ above. is_between prefix above key)

-- a place of the organisation with this number: its key is under the number. The version's place is of none
abbrev pub is_place_of : (org : ℕ) → Place → Bool
is_place_of n place = not (place.0 == 0) && is_under (number32 n) place.1

-- the tables without the places of others
abbrev pub part_of : (org : ℕ) → Tables → Tables
part_of n m = map.retain_keys m (is_place_of n)

-- ---- rows

-- a key of the organisation with this number
abbrev pub is_own : (org : ℕ) → Key → Bool
is_own n k = option_eq nat_eq (org_of_key k) (Some n)

-- the rows of one organisation alone
abbrev pub rows_alone : (org : ℕ) → OrgPlan → Option Tenant → Key → Option (List ℕ)
rows_alone n q t k = if is_own n k then option_and_then (λ (u : Tenant). row_in q u k) t else None

-- at the places of the organisation with this number are just the rows of this tenant, or none, whatever is elsewhere
pub record StandsIn (org : ℕ) (q : OrgPlan) (m : Tables) (t : Option Tenant) : Type 0 where
  pub number : IfSome t (λ _. org < 2 ^ 32 - 1)
  pub sound : IfSome t IsSound
  pub plan : IfSome t (FitsPlan q)
  pub rows : Holds all_tables (part_of org m) (rows_alone org q t)

-- the organisation's rows are this tenant's, or none, by some plan
abbrev pub StandsFor : (org : ℕ) → Tables → Option Tenant → Type 0
StandsFor n m t = (q : OrgPlan) × StandsIn n q m t

-- nothing changes at the places of others
abbrev pub KeepsOthers : (org : ℕ) → Tables → Tables → Type 0
KeepsOthers n m after = (place : Place) → is_place_of n place ≡ false → map.get after place ≡ map.get m place

-- a change at a key of the organisation with this number
abbrev pub IsIn : (org : ℕ) → Change → Type 0
IsIn n c = FitsKey c.0 × (org_of_key c.0 ≡ Some n)

-- ---- reads

-- what is found is what each tenant has there, or none, for which the organisation's rows stand, and such are never damaged
abbrev pub FindsIn : {X : Type 0} → (org : ℕ) → (OrgPlan → Option Tenant → X) → Tables → Result X StoreFail → Type 0
FindsIn n value m (Ok x) = (q : OrgPlan) (t : Option Tenant) → StandsIn n q m t → x ≡ value q t
FindsIn n value m (Err Damaged) = (q : OrgPlan) (t : Option Tenant) → StandsIn n q m t → ⊥
FindsIn n value m (Err Keeper) = Unit {0}
FindsIn n value m (Err Memory) = Unit {0}

-- the same of what has to be there: it is damaged only where it isn't
abbrev pub FindsThere : {X : Type 0} → (org : ℕ) → (OrgPlan → Option Tenant → Option X) → Tables → Result X StoreFail → Type 0
FindsThere n value m (Ok x) = (q : OrgPlan) (t : Option Tenant) → StandsIn n q m t → Some x ≡ value q t
FindsThere n value m (Err Damaged) = (q : OrgPlan) (t : Option Tenant) → StandsIn n q m t → value q t ≡ None
FindsThere n value m (Err Keeper) = Unit {0}
FindsThere n value m (Err Memory) = Unit {0}
