use Rattle.std.proofs.Common.{length}
use Rattle.model.proofs.name_forms.+in_stem.Given as goal

abbrev pub decreases-in_stem : goal.decreases-in_stem
decreases-in_stem l = length l.bytes.now
