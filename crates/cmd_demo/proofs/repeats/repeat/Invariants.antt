use Rattle.std.proofs.Common.{◌≡◌, Ok}
use Rattle.model.specs.Paths.{Asked}
use Rattle.cmd_sandbox.specs.Making.{IsOwned}
use Rattle.cmd_demo.specs.Demos.{repeats_from}
use Rattle.cmd_demo.specs.declared.repeats.Repeats.{Repeats}
use Rattle.cmd_demo.proofs.Counting.{HasSeen}
use Rattle.cmd_demo.proofs.repeats.repeat.Given as goal

abbrev pub invariant-loop-turn : goal.invariant-loop-turn
invariant-loop-turn l = record {
  count : l.repeats.count ≡ l.turn;
  so_far : (a : Asked) → IsOwned l.now l.fn.draft a
      → (x : Asked × Repeats) × (repeats_from l.turn a ≡ Ok x) × HasSeen l.now l.draft x l.repeats;
}
