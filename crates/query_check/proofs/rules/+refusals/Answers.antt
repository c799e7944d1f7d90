use Rattle.std.proofs.Common.{◌∙◌, ◌<◌, length, sym, ap, arith, flat_map}
use Rattle.soql.specs.declared.query.Cond.{Cond}
use Rattle.model.specs.Rules.{Rule, first_of}
use Rattle.model.specs.Tests.{Tested, tests_of}
use Rattle.query_check.specs.Rules.{rule_in}
use Rattle.query_check.proofs.Refusing.{goes_on, none_there, refused}
use Rattle.query_check.proofs.Tests.{tests_and, tests_not, tests_or}
use Rattle.query_plan.proofs.Within.{if_ok}
use Rattle.query_check.proofs.rules.+refusals.Goals as goal

pub refusal_among-returns-in-Some : goal.refusal_among-returns-in-Some
refusal_among-returns-in-Some t c =
    let f : Tested → Rule = rule_in c.args.layouts.now c.args.layout.now c.args.rule in
    let lt : c.loop-cond.cond-index < length c.args.conds.now = omega (arith, c.loop-cond-test.true) in
    refused f c.args.conds.now c.loop-cond.cond-index c.cond-item.result c.in-Some.refusal lt c.cond-item.is (sym c.in_ok-refusal.ensures ∙ c.in-Some.is) c.loop-cond.invariant

pub refusal_among-loop-cond-preserved : goal.refusal_among-loop-cond-preserved
refusal_among-loop-cond-preserved t c =
    let f : Tested → Rule = rule_in c.args.layouts.now c.args.layout.now c.args.rule in
    let lt : c.loop-cond.cond-index < length c.args.conds.now = omega (arith, c.loop-cond-test.true) in
    goes_on f c.args.conds.now c.loop-cond.cond-index c.cond-item.result lt c.cond-item.is (sym c.in_ok-refusal.ensures ∙ none_there c.in_ok-refusal.field-0 c.in_default.not-Some) c.loop-cond.invariant

pub condition_refusal-returns-in-Not : goal.condition_refusal-returns-in-Not
condition_refusal-returns-in-Not t c =
    let f : Tested → Rule = rule_in c.args.layouts.now c.args.layout.now c.args.rule in
    if_ok c.condition_refusal.result
    (λ r e. e ∙ ap (λ (k : Cond). first_of f (tests_of k)) c.get.ensures ∙ ap (first_of f) (sym (tests_not c.in-Not.part)) ∙ ap (λ (k : Cond). first_of f (tests_of k)) (sym c.in-Not.is))
    c.condition_refusal.ensures

pub condition_refusal-returns-in-And : goal.condition_refusal-returns-in-And
condition_refusal-returns-in-And t c =
    let f : Tested → Rule = rule_in c.args.layouts.now c.args.layout.now c.args.rule in
    if_ok c.refusal_among.result
    (λ r e. e ∙ ap (λ ks. first_of f (flat_map tests_of ks)) c.as_slice-in-And.ensures ∙ ap (first_of f) (sym (tests_and c.in-And.parts)) ∙ ap (λ (k : Cond). first_of f (tests_of k)) (sym c.in-And.is))
    c.refusal_among.ensures

pub condition_refusal-returns-in-Or : goal.condition_refusal-returns-in-Or
condition_refusal-returns-in-Or t c =
    let f : Tested → Rule = rule_in c.args.layouts.now c.args.layout.now c.args.rule in
    if_ok c.refusal_among-in-Or.result
    (λ r e. e ∙ ap (λ ks. first_of f (flat_map tests_of ks)) c.as_slice-in-Or.ensures ∙ ap (first_of f) (sym (tests_or c.in-Or.parts)) ∙ ap (λ (k : Cond). first_of f (tests_of k)) (sym c.in-Or.is))
    c.refusal_among-in-Or.ensures
