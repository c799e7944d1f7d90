use Rattle.model.proofs.Places.{named_at}
use Rattle.model.proofs.reading.object_laws.Goals as goal

pub returns : goal.returns
returns c = record { named = named_at }
