use Rattle.std.proofs.Common.{◌≡◌, ◌++◌, drop, map}
use Rattle.api_read.proofs.people.whole_list.Given as goal

abbrev pub invariant-loop-row : goal.invariant-loop-row
invariant-loop-row g l = l.told ++ map g.R.PeopleRow.whole (drop l.row-index l.rows) ≡ map g.R.PeopleRow.whole l.rows
