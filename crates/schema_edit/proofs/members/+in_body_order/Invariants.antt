use Rattle.std.proofs.Common.{length}
use Rattle.schema_edit.proofs.members.+in_body_order.Given as goal

abbrev pub decreases-in_body_order : goal.decreases-in_body_order
decreases-in_body_order g l = length l.members.now
