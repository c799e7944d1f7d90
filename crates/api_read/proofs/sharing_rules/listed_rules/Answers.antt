use Rattle.std.proofs.Common.{rules}
use Rattle.std.specs.Str.{chars}
use Rattle.api_read.proofs.sharing_rules.listed_rules.Goals as goal

pub returns : goal.returns
unfolding chars
returns c = search rules
