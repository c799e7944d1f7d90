use Rattle.std.proofs.Common.{◌≡◌, map, drop}
use Rattle.api.specs.inner.Places.{added, pattern_of}
use Rattle.api.proofs.table.add.Given as goal

abbrev pub invariant-loop-text : goal.invariant-loop-text
invariant-loop-text l =
    added l.fn.router (map pattern_of l.fn.table) ≡ added l.router (map pattern_of (drop l.text-index l.fn.table))
