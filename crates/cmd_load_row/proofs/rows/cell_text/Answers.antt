use Rattle.std.proofs.Common.{◌∙◌, ap}
use Rattle.std.proofs.lemmas.Str.{scalars-chars}
use Rattle.std.specs.Str.{all_scalars}
use Rattle.cmd_load_row.proofs.rows.cell_text.Goals as goal

pub returns-clause-spelled : goal.returns-clause-spelled
returns-clause-spelled c = ap all_scalars c.in_ok-text.ensures ∙ scalars-chars c.args.cell.now c.utf8.cell
