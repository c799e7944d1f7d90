use Rattle.std.proofs.Common.{◌≡◌, drop}
use Rattle.model.specs.Rules.{first_of}
use Rattle.query_check.specs.Rules.{child_tests_rule}
use Rattle.query_check.proofs.refusals.items_tests_refusal.Given as goal

abbrev pub invariant-loop-item : goal.invariant-loop-item
invariant-loop-item l =
    first_of (child_tests_rule l.layouts l.layout l.rule) l.items ≡ first_of (child_tests_rule l.layouts l.layout l.rule) (drop l.item-index l.items)
