use Rattle.std.proofs.Common.{◌≡◌, drop}
use Rattle.csv.specs.declared.parser.State.TheVariants as st
use Rattle.base_csv.specs.inner.Spots.{state_at}
use Rattle.base_csv.proofs.Scans.{scan}
use Rattle.base_csv.proofs.place.records_len.Given as goal

abbrev pub invariant-loop-at : goal.invariant-loop-at
invariant-loop-at l = scan l.left (state_at l.spot) (drop l.at l.bytes) ≡ scan l.rows st.StartRecord l.bytes
