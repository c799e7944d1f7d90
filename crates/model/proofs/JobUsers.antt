-- A step of a change of a type leaves the users.
use Rattle.std.proofs.Common.{◌≡◌, List, [], ◌∷◌, Option, Some, None, refl}
use Rattle.base_value.specs.declared.job.Phase.{Phase}
use Rattle.base_value.specs.declared.job.Phase.TheVariants as phase
use Rattle.model.specs.declared.record.Record.{Record}
use Rattle.model.specs.Cases.{in_case}
use Rattle.model.specs.Jobs.{clear_step, copy_step, job_step, next_hundred, step_in}
use Rattle.model.specs.Tenant.{Job, Tenant}

pub users_kept : (t : Tenant) → (job_step t).users ≡ t.users
unfolding job_step
users_kept t = by t.job
  where
    copies : (j : Job) (rs : List Record) → (copy_step j rs t).users ≡ t.users
    copies j [] = refl
    copies j (r ∷ rs) = refl

    clears : (j : Job) (rs : List Record) → (clear_step j rs t).users ≡ t.users
    clears j [] = refl
    clears j (r ∷ rs) = refl

    one : (p : Phase) (j : Job) → (step_in p j t).users ≡ t.users
    one phase.Copy j = copies j (next_hundred t j)
    one phase.Clear j = clears j (next_hundred t j)
    one phase.Done j = refl

    by : (o : Option Job) → (in_case o t (λ j. step_in j.phase j t)).users ≡ t.users
    by None = refl
    by (Some j) = one j.phase j
