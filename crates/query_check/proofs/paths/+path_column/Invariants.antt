use Rattle.std.proofs.Common.{length}
use Rattle.query_check.proofs.paths.+path_column.Given as goal

abbrev pub decreases-path_column : goal.decreases-path_column
decreases-path_column l = length l.names.now
