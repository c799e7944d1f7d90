use Rattle.platform_history.proofs.Turns.{history, in_turn}
use Rattle.platform_history.proofs.laws.history_laws.Goals as goal

pub returns : goal.returns
returns g c =
    let state = g.K.Keeper.state in
    record {
      crashes = history state g.met.K.Keeper.settled c.stands_laws.ensures.empty;
      in_turn = in_turn state g.met.K.Keeper.settled c.stands_laws.ensures.empty;
    }
