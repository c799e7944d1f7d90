use Rattle.std.proofs.Common.{length}
use Rattle.schema_edit.proofs.relations.+master_among.Given as goal

abbrev pub decreases-master_among : goal.decreases-master_among
decreases-master_among l = length l.fields.now
