use Rattle.std.proofs.Common.{◌≡◌, ◌++◌, drop, map}
use Rattle.api_read.proofs.people.short_list.Given as goal

abbrev pub invariant-loop-row : goal.invariant-loop-row
invariant-loop-row g l = l.told ++ map g.R.PeopleRow.short (drop l.row-index l.rows) ≡ map g.R.PeopleRow.short l.rows
