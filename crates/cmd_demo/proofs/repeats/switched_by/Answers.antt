use Rattle.std.proofs.Common.{◌∙◌, Bool, None, Option, Some, ap, sym, ℕ}
use Rattle.std.specs.Prelude.{if◌then◌else◌}
use Rattle.cmd_demo.specs.Demos.{switched_by}
use Rattle.cmd_demo.proofs.repeats.switched_by.Goals as goal

pub returns-in-Ok-clause-is : goal.returns-in-Ok-clause-is
returns-in-Ok-clause-is c now a made =
    c.if_switched.ensures ∙ ap (λ (b : Bool). if b then Some c.args.number else None) (c.in-Ok.ensures.is now a made)
    ∙ ap (λ (first : Option ℕ). switched_by first c.args.number a.tenant) (sym c.in-None.is)
