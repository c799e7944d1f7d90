use Rattle.model.proofs.Within.{holds_and, holds_not, holds_or}
use Rattle.model.proofs.access.condition_laws.Goals as goal

pub returns : goal.returns
returns c = record { negation = holds_not; all = holds_and; some = holds_or }
