use Rattle.std.proofs.Common.{◌≡◌, drop, flat_map}
use Rattle.std.specs.List.{list_all}
use Rattle.model.specs.Tests.{tests_of}
use Rattle.model.specs.Flat.{is_flat_test}
use Rattle.query_check.proofs.flat.+flatness.Given as goal

abbrev pub invariant-are_flat_conditions-loop-cond : goal.invariant-are_flat_conditions-loop-cond
invariant-are_flat_conditions-loop-cond l =
    list_all is_flat_test (flat_map tests_of l.conds) ≡ list_all is_flat_test (flat_map tests_of (drop l.cond-index l.conds))
