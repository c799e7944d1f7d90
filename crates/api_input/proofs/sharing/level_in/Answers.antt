use Rattle.std.specs.Str.{chars}
use Rattle.api_input.proofs.sharing.level_in.Goals as goal

pub returns : goal.returns
unfolding chars
returns c = c.table_entry.ensures
