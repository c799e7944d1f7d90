use Rattle.std.proofs.Common.{◌≡◌, ◌+◌, drop}
use Rattle.std.specs.Str.{chars}
use Rattle.query_plan.specs.paths.ByLayout.{parent_from}
use Rattle.query_plan.proofs.paths.parents.parent_among.Given as goal

abbrev pub invariant-loop-number : goal.invariant-loop-number
invariant-loop-number l = parent_from (l.number + 1) (drop l.number l.fields) (chars l.name) ≡ parent_from 1 l.fields (chars l.name)
