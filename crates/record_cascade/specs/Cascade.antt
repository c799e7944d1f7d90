-- What is found to go with records.
use Rattle.std.specs.Prelude.{◌≡◌, ℕ, List, map, Some, Result, Ok, Err}
use Rattle.store_kv.specs.Tables.{Tables}
use Rattle.store_rows.specs.declared.fail.StoreFail.{StoreFail}
use Rattle.store_rows.specs.declared.fail.StoreFail.TheVariants.{Damaged, Keeper, Memory}
use Rattle.model.specs.declared.record.Record.{Record}
use Rattle.model.specs.Tenant.{Tenant}
use Rattle.store_abstraction.specs.declared.layout.Layout.{Layout}
use Rattle.store_abstraction.specs.Layouts.{own_layouts}
use Rattle.store_abstraction.specs.Local.{StandsIn}
use Rattle.store_abstraction.specs.Plan.{OrgPlan}

-- what is found are the ids of what goes with records that have these ids, in each tenant for which the organisation's rows
-- stand and whose layouts these are, and such are never damaged
abbrev pub FindsWith : (org : ℕ) → List Layout → (ids : List (List ℕ)) → (Tenant → List Record → List Record)
    → Tables → Result (List (List ℕ)) StoreFail → Type 0
FindsWith org layouts ids what m (Ok x) =
    (q : OrgPlan) (t : Tenant) → StandsIn org q m (Some t) → own_layouts org q (Some t) ≡ layouts
    → (rs : List Record) → map (λ r. r.id) rs ≡ ids → x ≡ map (λ r. r.id) (what t rs)
FindsWith org layouts ids what m (Err Damaged) =
    (q : OrgPlan) (t : Tenant) → StandsIn org q m (Some t) → own_layouts org q (Some t) ≡ layouts → ⊥
FindsWith org layouts ids what m (Err Keeper) = Unit {0}
FindsWith org layouts ids what m (Err Memory) = Unit {0}
