use Rattle.std.proofs.Common.{◌≡◌, drop, flat_map}
use Rattle.model.specs.Rules.{first_of}
use Rattle.model.specs.Tests.{tests_of}
use Rattle.query_check.specs.Rules.{rule_in}
use Rattle.query_check.proofs.rules.+refusals.Given as goal

abbrev pub invariant-refusal_among-loop-cond : goal.invariant-refusal_among-loop-cond
invariant-refusal_among-loop-cond l =
    first_of (rule_in l.layouts l.layout l.rule) (flat_map tests_of l.conds) ≡ first_of (rule_in l.layouts l.layout l.rule) (flat_map tests_of (drop l.cond-index l.conds))
