-- Whether a change is under way, by the row of the organisation's change.
use Rattle.std.proofs.Common.{◌≡◌, ℕ, not, Option, None, Some, refl, sym, ap, ◌∙◌}
use Rattle.std.specs.Option.{option_map}
use Rattle.model.specs.Cases.{in_case}
use Rattle.model.specs.declared.refusal.Refusal.TheVariants.{JobBusy}
use Rattle.model.specs.Retyping.{job_is_done, under_way}
use Rattle.model.specs.Rules.{refuse_if}
use Rattle.model.specs.Tenant.{Job, Tenant}
use Rattle.retype_request.specs.inner.States.{busy_by}
use Rattle.store_abstraction.specs.Layouts.{own_change_row}
use Rattle.store_abstraction.specs.Metadata.{job_of}
use Rattle.store_abstraction.specs.Plan.{OrgPlan}
use Rattle.base_value.specs.declared.job.Phase.{Phase}
use Rattle.base_value.specs.declared.job.Phase.TheVariants as phase

pub busy_is : (org : ℕ) (q : OrgPlan) (t : Tenant) → under_way t ≡ refuse_if (busy_by (own_change_row org q (Some t))) JobBusy
unfolding own_change_row
busy_is org q t = by t.job
  where
    by : (job : Option Job) → in_case job None (λ j. refuse_if (not (job_is_done j.phase)) JobBusy) ≡ refuse_if (busy_by (option_map (job_of org q) job)) JobBusy
    by None = refl
    by (Some j) = refl

-- where none is, the last one is done
pub all_done : (t : Tenant) → under_way t ≡ None → (j : Job) → t.job ≡ Some j → j.phase ≡ phase.Done
all_done t idle j there = by j.phase (sym (ap (λ (x : Option Job). in_case x None (λ j. refuse_if (not (job_is_done j.phase)) JobBusy)) there) ∙ idle)
  where
    by : (p : Phase) → refuse_if (not (job_is_done p)) JobBusy ≡ None → p ≡ phase.Done
    by phase.Copy e = absurd cc
    by phase.Clear e = absurd cc
    by phase.Done e = refl
