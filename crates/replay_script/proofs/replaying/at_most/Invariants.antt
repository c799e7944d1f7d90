use Rattle.std.proofs.Common.{◌≤◌}
use Rattle.std.specs.List.{All}
use Rattle.replay_script.proofs.replaying.at_most.Given as goal

abbrev pub invariant-items : goal.invariant-items
invariant-items l = All (λ n. n ≤ l.most) l.list
