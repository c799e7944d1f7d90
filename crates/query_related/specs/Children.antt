-- The children of a row's record, as who asks may read them.
-- Source: Salesforce, "SOQL and SOSL Reference", "Relationship Queries".
use Rattle.std.specs.Prelude.{◌≡◌, ℕ, ◌+◌, ◌*◌, List, [], ◌∷◌, length, Some, Result, Ok, Err}
use Rattle.store_kv.specs.Tables.{Tables}
use Rattle.store_rows.specs.declared.fail.StoreFail.{StoreFail}
use Rattle.store_rows.specs.declared.fail.StoreFail.TheVariants.{Damaged, Keeper, Memory}
use Rattle.query_plan.specs.declared.plan.ChildPlan.{ChildPlan}
use Rattle.model.specs.declared.record.Record.{Record}
use Rattle.model.specs.Paths.{Asked}
use Rattle.query_related.specs.parents.Parents.{readable_shown}
use Rattle.access_traits.specs.Rights.{Whose}
use Rattle.store_abstraction.specs.Layouts.{own_layouts}
use Rattle.store_abstraction.specs.Local.{StandsIn}
use Rattle.store_abstraction.specs.Plan.{OrgPlan}
use Rattle.store_abstraction.specs.declared.layout.Layout.{Layout}

-- ---- what is found

-- so it is of whoever asks whose rights they are, of each tenant for which an organisation's rows stand and all of whose layouts these
-- are
abbrev pub OfAsked : List Layout → Whose → Tables → (Asked → Type 0) → Type 0
OfAsked layouts whose m P =
    (org : ℕ) (q : OrgPlan) (a : Asked) → StandsIn org q m (Some a.tenant) → layouts ≡ own_layouts org q (Some a.tenant)
    → whose a.tenant a.user → P a

-- what is found is so, and such are never damaged
abbrev pub FindsOfAsked : {X : Type 0} → List Layout → Whose → (Asked → X) → Tables → Result X StoreFail → Type 0
FindsOfAsked layouts whose value m (Ok x) = OfAsked layouts whose m (λ a. x ≡ value a)
FindsOfAsked layouts whose value m (Err Damaged) = OfAsked layouts whose m (λ a. ⊥)
FindsOfAsked layouts whose value m (Err Keeper) = Unit {0}
FindsOfAsked layouts whose value m (Err Memory) = Unit {0}

-- the same of each record with this id
abbrev pub OfTarget : List Layout → Whose → (id : List ℕ) → Tables → (Asked → Record → Type 0) → Type 0
OfTarget layouts whose id m P = OfAsked layouts whose m (λ a. (r : Record) → r.id ≡ id → P a r)

abbrev pub FindsOfTarget : {X : Type 0} → List Layout → Whose → (id : List ℕ) → (Asked → Record → X) → Tables → Result X StoreFail → Type 0
FindsOfTarget layouts whose id value m (Ok x) = OfTarget layouts whose id m (λ a r. x ≡ value a r)
FindsOfTarget layouts whose id value m (Err Damaged) = OfTarget layouts whose id m (λ a r. ⊥)
FindsOfTarget layouts whose id value m (Err Keeper) = Unit {0}
FindsOfTarget layouts whose id value m (Err Memory) = Unit {0}

-- ---- data rows that are shown

-- for a child subquery at most: each record of an object that refers, if it may be read, and of each its parents
abbrev pub subquery_shown : ChildPlan → ℕ
subquery_shown p = 20000 * (readable_shown + readable_shown * length p.choice.branches)

-- for some of them
abbrev pub subqueries_shown : List ChildPlan → ℕ
subqueries_shown [] = 0
subqueries_shown (p ∷ ps) = subquery_shown p + subqueries_shown ps
