use Rattle.std.proofs.Common.{◌∙◌, ap}
use Rattle.std.proofs.lemmas.Str.{scalars-chars}
use Rattle.std.specs.Str.{all_scalars}
use Rattle.cmd_load_plan.proofs.rows.given_in.Goals as goal

pub returns-in-None-clause-spelled : goal.returns-in-None-clause-spelled
returns-in-None-clause-spelled c = ap all_scalars c.in_ok-text.ensures ∙ scalars-chars c.args.cell.now c.utf8.cell

pub returns-in-Some-clause-spelled : goal.returns-in-Some-clause-spelled
returns-in-Some-clause-spelled c = ap all_scalars c.in_ok-text.ensures ∙ scalars-chars c.args.cell.now c.utf8.cell
