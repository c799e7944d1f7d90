use Rattle.std.specs.Str.{chars}
use Rattle.api_input.proofs.principals.kind_named.Goals as goal

pub returns : goal.returns
unfolding chars
returns c = c.entry_named.ensures
