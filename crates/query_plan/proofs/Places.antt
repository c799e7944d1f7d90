-- The place to which names have led so far.
use Rattle.std.proofs.Common.{◌≡◌, ℕ, List, [], ◌∷◌, ◌++◌, Option, Some}
use Rattle.std.specs.Prelude.{slice_get}
use Rattle.model.specs.declared.record.Record.{Record}
use Rattle.model.specs.Paths.{Asked}
use Rattle.model.specs.Tenant.{Tenant}
use Rattle.store_abstraction.specs.declared.layout.Layout.{Layout}
use Rattle.store_abstraction.specs.Layouts.{own_layout}
use Rattle.store_abstraction.specs.Plan.{OrgPlan}
use Rattle.query_plan.specs.declared.paths.branches.Branch.{Branch}
use Rattle.query_plan.specs.declared.paths.parents.ParentStep.{ParentStep}
use Rattle.query_plan.specs.paths.Branches.{AddsBranches, IsAmong, branch_records, record_above}
use Rattle.query_plan.specs.paths.Ways.{led_to}
use Rattle.query_plan.proofs.Branching.{branch_leads}
use Rattle.query_plan.proofs.Spelling.{HasCome, IsStep, one_more}

-- the first names have led to this branch and this layout
pub record HasReached (q : OrgPlan) (t : Tenant) (n : ℕ) (names : List (List ℕ)) (branches : List Branch) (at : Option ℕ) (l : Layout) (rest : List (List ℕ)) : Type 0 where
  pub steps : List ParentStep
  pub come : HasCome q t n names steps l rest
  pub leads : (a : Asked) (r : Record) → record_above r (branch_records a r [] branches) at ≡ led_to a steps r

module _ (q : OrgPlan) (t : Tenant) (names : List (List ℕ)) where
  pub reached_next : (n : ℕ) (old new : List Branch) (at : Option ℕ) (number : ℕ) (l next : Layout) (name : List ℕ) (rest : List (List ℕ)) (s : ParentStep) (org : ℕ)
      → AddsBranches old new → IsAmong old at → slice_get new number ≡ Some (record { above = at; step = s })
      → (it : HasReached q t n names old at l (name ∷ rest)) → IsStep q t n names it.steps l name s → own_layout org s.target q (Some t) ≡ Some next
      → HasReached q t n names new (Some number) next rest
  reached_next n old new at number l next name rest s org more among there it is read = record {
    steps = it.steps ++ s ∷ [];
    come = one_more q t n names it.steps l name rest s org next it.come is read;
    leads = λ a r. branch_leads a r old new at number s it.steps more among there (it.leads a r);
  }
