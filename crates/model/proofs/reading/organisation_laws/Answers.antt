use Rattle.model.proofs.NewSound.{fresh_sound}
use Rattle.model.proofs.reading.organisation_laws.Goals as goal

pub returns : goal.returns
returns c = record { fresh = fresh_sound }
