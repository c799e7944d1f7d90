use Rattle.std.proofs.Common.{rules}
use Rattle.std.specs.Str.{chars}
use Rattle.api_read.proofs.sharing_rules.level_name.Goals as goal

pub returns-in-Nothing : goal.returns-in-Nothing
unfolding chars
returns-in-Nothing c = search rules

pub returns-in-Read : goal.returns-in-Read
unfolding chars
returns-in-Read c = search rules

pub returns-in-Edit : goal.returns-in-Edit
unfolding chars
returns-in-Edit c = search rules

pub returns-in-Full : goal.returns-in-Full
unfolding chars
returns-in-Full c = search rules
