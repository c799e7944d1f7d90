use Rattle.std.proofs.Common.{◌-◌, length}
use Rattle.record_constraints.proofs.duplicates.+clashes_from.Given as goal

abbrev pub decreases-clashes_from : goal.decreases-clashes_from
decreases-clashes_from g l = length l.layout.now.fields - l.number
