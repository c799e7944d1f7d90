use Rattle.store_abstraction.proofs.Found.{cause_so, quiet_so, stays_so}
use Rattle.store_abstraction.proofs.calls.ended_laws.Goals as goal

pub returns : goal.returns
returns g c = record {
  stays = λ old new result h. stays_so (g.K.Keeper.state old) (g.K.Keeper.state new) result h;
  cause = λ old new result h. cause_so (g.K.Keeper.state old) (g.K.Keeper.state new) result h;
  quiet = λ old new result h. quiet_so (g.K.Keeper.state old) (g.K.Keeper.state new) result h;
}
