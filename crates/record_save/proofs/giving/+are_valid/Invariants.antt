use Rattle.std.proofs.Common.{length}
use Rattle.record_save.proofs.giving.+are_valid.Given as goal

abbrev pub decreases-are_valid : goal.decreases-are_valid
decreases-are_valid l = length l.fields.now
