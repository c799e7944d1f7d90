use Rattle.std.proofs.Common.{◌≡◌, ◌++◌, drop}
use Rattle.query_bind.proofs.members.copy_names.Given as goal

abbrev pub invariant-loop-name : goal.invariant-loop-name
invariant-loop-name l = l.copied.items ++ drop l.name-index l.names ≡ l.names
