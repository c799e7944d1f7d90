use Rattle.std.proofs.Common.{rules}
use Rattle.std.specs.Str.{chars}
use Rattle.api_read.proofs.sharing_rules.state_name.Goals as goal

pub returns-in-Whole : goal.returns-in-Whole
unfolding chars
returns-in-Whole c = search rules

pub returns-in-Building : goal.returns-in-Building
unfolding chars
returns-in-Building c = search rules

pub returns-in-Leaving : goal.returns-in-Leaving
unfolding chars
returns-in-Leaving c = search rules
