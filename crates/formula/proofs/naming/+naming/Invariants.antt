use Rattle.std.proofs.Common.{◌≡◌, ◌++◌, drop, flat_map}
use Rattle.formula.specs.Naming as spec
use Rattle.formula.proofs.naming.+naming.Given as goal

abbrev pub invariant-add_all_names-loop-formula : goal.invariant-add_all_names-loop-formula
invariant-add_all_names-loop-formula l =
    l.found.items ++ flat_map spec.names (drop l.formula-index l.formulas) ≡ l.fn.found.items ++ flat_map spec.names l.formulas
