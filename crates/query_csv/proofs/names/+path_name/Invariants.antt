use Rattle.std.proofs.Common.{length}
use Rattle.query_csv.proofs.names.+path_name.Given as goal

abbrev pub decreases-path_name : goal.decreases-path_name
decreases-path_name l = length l.names.now
