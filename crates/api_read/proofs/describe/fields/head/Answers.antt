use Rattle.std.proofs.Common.{rules}
use Rattle.std.specs.Str.{chars}
use Rattle.api_read.proofs.describe.fields.head.Goals as goal

pub returns : goal.returns
unfolding chars
returns c = search rules
