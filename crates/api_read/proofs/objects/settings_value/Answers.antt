use Rattle.std.proofs.Common.{rules}
use Rattle.std.specs.Str.{chars}
use Rattle.api_read.proofs.objects.settings_value.Goals as goal

pub returns : goal.returns
unfolding chars
returns c = search rules
