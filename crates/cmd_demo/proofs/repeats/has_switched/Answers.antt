use Rattle.std.proofs.Common.{◌∙◌, sym}
use Rattle.cmd_demo.proofs.Telling.{no_switch, switch_told}
use Rattle.cmd_demo.proofs.repeats.has_switched.Goals as goal

pub returns-in-Ok-Some-clause-is : goal.returns-in-Ok-Some-clause-is
returns-in-Ok-Some-clause-is c now a made =
    c.is_switch.ensures ∙ switch_told a.tenant c.in-Ok-Some.change (sym c.in-Ok-Some.field-0-is ∙ c.in-Ok-Some.ensures.is now a made)

pub returns-in-Ok-None-clause-is : goal.returns-in-Ok-None-clause-is
returns-in-Ok-None-clause-is c now a made = no_switch a.tenant (sym c.in-Ok-None.field-0-is ∙ c.in-Ok-None.ensures.is now a made)
