use Rattle.server.proofs.Brought.{unfaulted}
use Rattle.server.proofs.laws.connection_laws.Goals as goal

pub returns : goal.returns
returns c = unfaulted
