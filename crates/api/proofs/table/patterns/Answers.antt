use Rattle.std.proofs.Common.{refl}
use Rattle.api.specs.inner.Places.{patterns}
use Rattle.api.proofs.table.patterns.Goals as goal

pub returns : goal.returns
unfolding patterns
returns c = refl
