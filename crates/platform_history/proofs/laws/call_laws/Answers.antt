use Rattle.platform_history.proofs.Turns.{one}
use Rattle.platform_history.proofs.laws.call_laws.Goals as goal

pub returns : goal.returns
returns g c = one g.K.Keeper.state g.met.K.Keeper.settled
