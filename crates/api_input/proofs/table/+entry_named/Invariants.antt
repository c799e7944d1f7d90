use Rattle.std.proofs.Common.{length}
use Rattle.api_input.proofs.table.+entry_named.Given as goal

abbrev pub decreases-entry_named : goal.decreases-entry_named
decreases-entry_named g l = length l.table.now
