use Rattle.std.proofs.Common.{◌≤◌, ◌+◌, length, true}
use Rattle.store_kv.specs.State.{StaysAfter, Steps, Tells}
use Rattle.model.specs.Callers.{named_by}
use Rattle.model.specs.World.{World}
use Rattle.store_abstraction.specs.Stands.{Stands}
use Rattle.commands.specs.Loading.{IsFull}
use Rattle.commands.proofs.Batching.{Gone}
use Rattle.commands.proofs.load.print_batches.Given as goal

abbrev pub invariant-batches : goal.invariant-batches
invariant-batches g l =
    let state = g.K.Keeper.state in
    let loading = l.loading in
    record {
      full : IsFull l.batch.items l.rows.left;
      steps : Steps (state l.fn.keeper) (state l.keeper);
      stays : StaysAfter true (state l.fn.keeper) (state l.keeper);
      sink_stays : g.W.Sink.stays l.fn.sink l.sink;
      faults : g.W.Sink.faults l.fn.sink ≤ g.W.Sink.faults l.sink;
      gone : Tells (state l.fn.keeper) (state l.keeper) → (w : World) → Stands (state l.fn.keeper).tables w
          → Gone (named_by loading.org.now loading.user.now loading.secret.now) loading.plan.now l.fn.first.items l.fn.rows w (state l.fn.keeper) (g.C.Clock.coming l.fn.clock) (g.W.Sink.written l.fn.sink) l.batch.items l.rows (state l.keeper) (g.C.Clock.coming l.clock) (g.W.Sink.written l.sink);
    }

abbrev pub decreases-batches : goal.decreases-batches
decreases-batches g l = length l.batch.items + length l.rows.left
