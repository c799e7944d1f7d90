use Rattle.server.proofs.Isolated.{isolated}
use Rattle.server.proofs.laws.isolation_laws.Goals as goal

pub returns : goal.returns
returns c = isolated c.step_laws.ensures.own c.step_laws.ensures.other
