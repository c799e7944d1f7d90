use Rattle.std.proofs.Common.{◌≡◌, [], drop}
use Rattle.query_check.specs.Rules.{paths_rule}
use Rattle.query_check.proofs.items.paths_refusal.Given as goal

abbrev pub invariant-loop-path : goal.invariant-loop-path
invariant-loop-path l = paths_rule l.layouts l.layout [] l.paths ≡ paths_rule l.layouts l.layout l.before.items (drop l.path-index l.paths)
