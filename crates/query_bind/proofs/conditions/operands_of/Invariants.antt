use Rattle.std.proofs.Common.{◌≡◌, ◌++◌, drop, map}
use Rattle.query_bind.specs.inner.Binding.{operand_of}
use Rattle.query_bind.proofs.conditions.operands_of.Given as goal

abbrev pub invariant-loop-literal : goal.invariant-loop-literal
invariant-loop-literal l = l.operands.items ++ map (operand_of l.day l.family) (drop l.literal-index l.literals) ≡ map (operand_of l.day l.family) l.literals
