use Rattle.std.proofs.Common.{length}
use Rattle.record_save.proofs.staying.+master_among.Given as goal

abbrev pub decreases-master_among : goal.decreases-master_among
decreases-master_among l = length l.fields.now
