use Rattle.std.proofs.Common.{◌≡◌, ◌≤◌, ◌+◌, drop, false}
use Rattle.base_csv.specs.Place.{line_ends}
use Rattle.base_csv.proofs.place.line_ends.Given as goal

abbrev pub invariant-loop-byte : goal.invariant-loop-byte
invariant-loop-byte l = record {
  count : l.count + line_ends l.after_return (drop l.byte-index l.bytes) ≡ line_ends false l.bytes;
  few : l.count ≤ l.byte-index;
}
