use Rattle.std.proofs.Common.{Err, List, subst, ℕ}
use Rattle.cmd_load.specs.Inputs.{IsPlanned, input_plan}
use Rattle.commands.proofs.Planned.{planned_refused}
use Rattle.commands.proofs.load.planned_input.Goals as goal

pub returns-in-Ok-Err-clause-plan : goal.returns-in-Ok-Err-clause-plan
returns-in-Ok-Err-clause-plan c x is =
    let told = rw c.in-Ok-Err.field-0-is at c.in-Ok-Err.ensures.planned in
    planned_refused (input_plan x c.args.text) c.args.text c.in-Ok-Err.refusal
    (subst (λ (t : List ℕ). IsPlanned (input_plan x t) t (Err c.in-Ok-Err.refusal)) c.as_slice.ensures (told x is))
