use Rattle.std.proofs.Common.{◌≡◌, drop}
use Rattle.base_csv.specs.Place.{past_ends}
use Rattle.base_csv.proofs.place.past_ends.Given as goal

abbrev pub invariant-loop-at : goal.invariant-loop-at
invariant-loop-at l = past_ends (drop l.at l.bytes) ≡ past_ends l.bytes
