use Rattle.query_plan.proofs.Ends.{end_column, ends_at}
use Rattle.query_plan.proofs.paths.laws.way_laws.Goals as goal
use Rattle.std.proofs.Common.{[]}

pub returns-clause-column : goal.returns-clause-column
returns-clause-column c t n names name = end_column t name n names

pub returns-clause-value : goal.returns-clause-value
returns-clause-value c a r names name steps n sound has at = (ends_at a sound name names r (steps, n) has at).value

pub returns-clause-number : goal.returns-clause-number
returns-clause-number c a r p names steps n sound has at led = (ends_at a sound [] names r (steps, n) has at).number p led
