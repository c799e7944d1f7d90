use Rattle.std.proofs.Common.{◌≡◌, ◌++◌, drop, map}
use Rattle.api_read.specs.inner.People.{told_rule}
use Rattle.api_read.proofs.sharing_rules.rules_json.Given as goal

abbrev pub invariant-loop-row : goal.invariant-loop-row
invariant-loop-row l = l.told ++ map (told_rule l.objects) (drop l.row-index l.rows) ≡ map (told_rule l.objects) l.rows
