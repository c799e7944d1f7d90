use Rattle.std.proofs.Common.{◌∙◌, sym}
use Rattle.cmd_demo.proofs.Telling.{no_change, end_told}
use Rattle.cmd_demo.proofs.repeats.is_settled.Goals as goal

pub returns-in-Ok-Some-clause-is : goal.returns-in-Ok-Some-clause-is
returns-in-Ok-Some-clause-is c now a made =
    c.job_is_done.ensures ∙ end_told a.tenant c.in-Ok-Some.change (sym c.in-Ok-Some.field-0-is ∙ c.in-Ok-Some.ensures.is now a made)

pub returns-in-Ok-None-clause-is : goal.returns-in-Ok-None-clause-is
returns-in-Ok-None-clause-is c now a made = no_change a.tenant (sym c.in-Ok-None.field-0-is ∙ c.in-Ok-None.ensures.is now a made)
