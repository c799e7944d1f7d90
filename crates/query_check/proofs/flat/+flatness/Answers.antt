use Rattle.std.proofs.Common.{◌∙◌, ◌<◌, length, sym, ap, arith, flat_map}
use Rattle.std.specs.List.{list_all}
use Rattle.soql.specs.declared.query.Cond.{Cond}
use Rattle.model.specs.Tests.{tests_of}
use Rattle.model.specs.Flat.{is_flat_test}
use Rattle.query_check.proofs.Flatness.{goes_on, stops}
use Rattle.query_check.proofs.Tests.{tests_and, tests_not, tests_or}
use Rattle.query_check.proofs.flat.+flatness.Goals as goal

pub are_flat_conditions-returns-then-not-is_flat_condition : goal.are_flat_conditions-returns-then-not-is_flat_condition
are_flat_conditions-returns-then-not-is_flat_condition t c =
    let lt : c.loop-cond.cond-index < length c.args.conds.now = omega (arith, c.loop-cond-test.true) in
    stops is_flat_test c.args.conds.now c.loop-cond.cond-index c.cond-item.result lt c.cond-item.is (sym c.is_flat_condition.ensures ∙ c.if-not-is_flat_condition.true) c.loop-cond.invariant

pub are_flat_conditions-loop-cond-preserved : goal.are_flat_conditions-loop-cond-preserved
are_flat_conditions-loop-cond-preserved t c =
    let lt : c.loop-cond.cond-index < length c.args.conds.now = omega (arith, c.loop-cond-test.true) in
    goes_on is_flat_test c.args.conds.now c.loop-cond.cond-index c.cond-item.result lt c.cond-item.is (sym c.is_flat_condition.ensures ∙ c.if-not-is_flat_condition.false) c.loop-cond.invariant

pub is_flat_condition-returns-in-Not : goal.is_flat_condition-returns-in-Not
is_flat_condition-returns-in-Not t c =
    c.is_flat_condition.ensures ∙ ap (λ (k : Cond). list_all is_flat_test (tests_of k)) c.get.ensures ∙ ap (list_all is_flat_test) (sym (tests_not c.in-Not.part)) ∙ ap (λ (k : Cond). list_all is_flat_test (tests_of k)) (sym c.in-Not.is)

pub is_flat_condition-returns-in-And : goal.is_flat_condition-returns-in-And
is_flat_condition-returns-in-And t c =
    c.are_flat_conditions.ensures ∙ ap (λ ks. list_all is_flat_test (flat_map tests_of ks)) c.as_slice.ensures ∙ ap (list_all is_flat_test) (sym (tests_and c.in-And.parts)) ∙ ap (λ (k : Cond). list_all is_flat_test (tests_of k)) (sym c.in-And.is)

pub is_flat_condition-returns-in-Or : goal.is_flat_condition-returns-in-Or
is_flat_condition-returns-in-Or t c =
    c.are_flat_conditions-in-Or.ensures ∙ ap (λ ks. list_all is_flat_test (flat_map tests_of ks)) c.as_slice-in-Or.ensures ∙ ap (list_all is_flat_test) (sym (tests_or c.in-Or.parts)) ∙ ap (λ (k : Cond). list_all is_flat_test (tests_of k)) (sym c.in-Or.is)
