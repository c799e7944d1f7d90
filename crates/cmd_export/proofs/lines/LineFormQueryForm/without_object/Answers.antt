use Rattle.std.proofs.Common.{List, ℕ, ap, ◌∙◌, Err}
use Rattle.model.specs.declared.refusal.Refusal.TheVariants.{InvalidType}
use Rattle.cmd_export.proofs.Exported.{no_object}
use Rattle.cmd_export.proofs.lines.LineFormQueryForm.without_object.Goals as goal

pub returns-in-Ok-clause-what : goal.returns-in-Ok-clause-what
returns-in-Ok-clause-what c a none = ap (λ (name : List ℕ). Err (InvalidType name)) c.in-Ok.ensures ∙ no_object a c.args.query.now none
