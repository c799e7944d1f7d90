use Rattle.std.proofs.Common.{◌∙◌, ◌<◌, ap, arith, length, map, subst, sym, List, ℤ, to_z, of_z, w64}
use Rattle.soql.specs.declared.query.Cond.{Cond}
use Rattle.soql.specs.declared.query.Cond.TheVariants as cond
use Rattle.soql.specs.declared.query.LikePattern.{LikePattern}
use Rattle.query_plan.proofs.Branching.{added_twice}
use Rattle.query_plan.specs.declared.check.Check.{Check}
use Rattle.query_plan.specs.declared.check.Check.TheVariants as check
use Rattle.query_plan.specs.declared.check.Operand.{Operand}
use Rattle.query_bind.specs.inner.Binding.{operand_of}
use Rattle.query_bind.specs.inner.Ends.{Each}
use Rattle.query_bind.specs.inner.Tails.{BindsCondition}
use Rattle.query_bind.proofs.Bound.{same_day}
use Rattle.query_bind.proofs.Conditioned.{and_binds, condition_later, in_binds, like_binds, not_binds, or_binds, test_binds}
use Rattle.query_bind.proofs.Counted.{and_few, conditions_few, few_more, next_few, not_few, or_few, steps_in}
use Rattle.query_bind.proofs.Keyed.{SoFar, each_end, each_more}
use Rattle.query_bind.proofs.branching.+bound_conditions.Goals as goal

pub bind_condition-returns-in_ok-operand_of-in-Test-clause-binds : goal.bind_condition-returns-in_ok-operand_of-in-Test-clause-binds
bind_condition-returns-in_ok-operand_of-in-Test-clause-binds t c =
    let Is = BindsCondition c.args.layouts.now c.args.layout.now c.args.day c.bind_path.new.branches.items in
    let x = c.in-Test in
    let b = c.in_ok-bound-in-Test.bound in
    subst (λ (y : Cond). Is y (check.Test b.spot x.op c.in_ok-operand_of-in-Test.field-0)) (sym x.is)
    (subst (λ (with : Operand). Is (cond.Test x.path x.op x.literal) (check.Test b.spot x.op with))
    (sym (c.in_ok-operand_of-in-Test.ensures ∙ ap (λ (d : ℤ). operand_of d b.family x.literal) (same_day c.args.day c.ranges.day)))
    (test_binds c.args.layouts.now c.args.layout.now c.args.day c.bind_path.new.branches.items x.path x.op x.literal b c.in_ok-bound-in-Test.ensures.binds))

pub bind_condition-returns-in_ok-pattern_of-in-Like-clause-binds : goal.bind_condition-returns-in_ok-pattern_of-in-Like-clause-binds
bind_condition-returns-in_ok-pattern_of-in-Like-clause-binds t c =
    let Is = BindsCondition c.args.layouts.now c.args.layout.now c.args.day c.bind_path-in-Like.new.branches.items in
    let x = c.in-Like in
    let b = c.in_ok-bind_path-in-Like.field-0 in
    subst (λ (y : Cond). Is y (check.Like b.spot c.in_ok-pattern_of-in-Like.field-0)) (sym x.is)
    (subst (λ (p : LikePattern). Is (cond.Like x.path x.pattern) (check.Like b.spot p)) (sym c.in_ok-pattern_of-in-Like.ensures)
    (like_binds c.args.layouts.now c.args.layout.now c.args.day c.bind_path-in-Like.new.branches.items x.path x.pattern b c.in_ok-bind_path-in-Like.ensures.binds))

pub bind_condition-returns-in_ok-operands_of-in-In-clause-binds : goal.bind_condition-returns-in_ok-operands_of-in-In-clause-binds
bind_condition-returns-in_ok-operands_of-in-In-clause-binds t c =
    let Is = BindsCondition c.args.layouts.now c.args.layout.now c.args.day c.bind_path-in-In.new.branches.items in
    let x = c.in-In in
    let b = c.in_ok-bound-in-In.bound in
    subst (λ (y : Cond). Is y (check.In b.spot x.negated c.in_ok-operands_of-in-In.field-0)) (sym x.is)
    (subst (λ (with : List Operand). Is (cond.In x.path x.negated x.literals) (check.In b.spot x.negated with))
    (sym (c.in_ok-operands_of-in-In.ensures
    ∙ ap (λ (d : ℤ). map (operand_of d b.family) c.as_slice.result.now) (same_day c.args.day c.ranges.day)
    ∙ ap (map (operand_of c.args.day b.family)) c.as_slice.ensures))
    (in_binds c.args.layouts.now c.args.layout.now c.args.day c.bind_path-in-In.new.branches.items x.path x.negated x.literals b c.in_ok-bound-in-In.ensures.binds))

pub bind_condition-returns-in_ok-new-in-Not-clause-binds : goal.bind_condition-returns-in_ok-new-in-Not-clause-binds
bind_condition-returns-in_ok-new-in-Not-clause-binds t c =
    let bs = c.bind_condition.new.branches.items in
    let Is = λ (d : ℤ). BindsCondition c.args.layouts.now c.args.layout.now d bs in
    let k = c.in_ok-check-in-Not.check in
    let within : Is c.args.day c.in-Not.part k =
    subst (λ (y : Cond). Is c.args.day y k) c.get.ensures (subst (λ (d : ℤ). Is d c.get.result.now k) (same_day c.args.day c.ranges.day) c.in_ok-check-in-Not.ensures.binds) in
    subst (λ (y : Cond). Is c.args.day y (check.Not c.in_ok-new-in-Not.field-0)) (sym c.in-Not.is)
    (subst (λ (z : Check). Is c.args.day (cond.Not c.in-Not.part) (check.Not z)) (sym c.in_ok-new-in-Not.ensures)
    (not_binds c.args.layouts.now c.args.layout.now c.args.day bs c.condition_laws.ensures.negation c.in-Not.part k within))

pub bind_condition-returns-in_ok-checks-in-And-clause-binds : goal.bind_condition-returns-in_ok-checks-in-And-clause-binds
bind_condition-returns-in_ok-checks-in-And-clause-binds t c =
    let bs = c.bind_conditions.new.branches.items in
    let Is = λ (d : ℤ). BindsCondition c.args.layouts.now c.args.layout.now d bs in
    let ks = c.in_ok-checks-in-And.checks in
    let each : Each (Is c.args.day) c.in-And.parts ks =
    subst (λ (ys : List Cond). Each (Is c.args.day) ys ks) c.as_slice-in-And.ensures
    (subst (λ (d : ℤ). Each (Is d) c.as_slice-in-And.result.now ks) (same_day c.args.day c.ranges.day) c.in_ok-checks-in-And.ensures.binds) in
    subst (λ (y : Cond). Is c.args.day y (check.And ks)) (sym c.in-And.is)
    (and_binds c.args.layouts.now c.args.layout.now c.args.day bs c.condition_laws.ensures.all c.in-And.parts ks each)

pub bind_condition-returns-in_ok-checks-in-Or-clause-binds : goal.bind_condition-returns-in_ok-checks-in-Or-clause-binds
bind_condition-returns-in_ok-checks-in-Or-clause-binds t c =
    let bs = c.bind_conditions-in-Or.new.branches.items in
    let Is = λ (d : ℤ). BindsCondition c.args.layouts.now c.args.layout.now d bs in
    let ks = c.in_ok-checks-in-Or.checks in
    let each : Each (Is c.args.day) c.in-Or.parts ks =
    subst (λ (ys : List Cond). Each (Is c.args.day) ys ks) c.as_slice-in-Or.ensures
    (subst (λ (d : ℤ). Each (Is d) c.as_slice-in-Or.result.now ks) (same_day c.args.day c.ranges.day) c.in_ok-checks-in-Or.ensures.binds) in
    subst (λ (y : Cond). Is c.args.day y (check.Or ks)) (sym c.in-Or.is)
    (or_binds c.args.layouts.now c.args.layout.now c.args.day bs c.condition_laws.ensures.some c.in-Or.parts ks each)

pub bind_conditions-loop-cond-preserved : goal.bind_conditions-loop-cond-preserved
bind_conditions-loop-cond-preserved t c =
    let ls = c.args.layouts.now in
    let l = c.args.layout.now in
    let day : ℤ = to_z w64 (of_z w64 c.args.day) in
    let conds = c.args.conds.now in
    let i = c.loop-cond.cond-index in
    let lt : i < length conds = omega (arith, c.loop-cond-test.true) in
    record {
      grown = added_twice _ _ _ c.loop-cond.invariant.grown c.bind_condition.ensures.grows;
      so_far = each_more (BindsCondition ls l day) (condition_later ls l day) c.loop-cond.branches.items c.bind_condition.new.branches.items c.bind_condition.ensures.grows conds i c.cond-item.result
          c.loop-cond.checks.items c.push.new.self.items c.in_ok-bind_condition.field-0 lt c.cond-item.is c.in_ok-push.ensures.items c.in_ok-bind_condition.ensures.binds c.loop-cond.invariant.so_far;
      few = few_more steps_in c.args.branches.now.items c.loop-cond.branches.items c.bind_condition.new.branches.items conds i
          c.cond-item.result lt c.cond-item.is c.bind_condition.ensures.few c.loop-cond.invariant.few;
    }

pub bind_conditions-returns-clause-binds : goal.bind_conditions-returns-clause-binds
bind_conditions-returns-clause-binds t c =
    let P = λ (d : ℤ). BindsCondition c.args.layouts.now c.args.layout.now d in
    let bs = c.loop-cond.branches.items in
    let conds = c.args.conds.now in
    let i = c.loop-cond.cond-index in
    let ks = c.loop-cond.checks.items in
    let so_far : SoFar (P c.args.day) bs conds i ks = subst (λ (d : ℤ). SoFar (P d) bs conds i ks) (same_day c.args.day c.ranges.day) c.loop-cond.invariant.so_far in
    subst (λ (zs : List Check). Each (P c.args.day bs) conds zs) (sym c.from_vec.ensures)
    (each_end (P c.args.day) bs c.loop-cond.invariant.grown.order conds i ks c.loop-cond-test.false so_far)

-- ---- how many branches there are

pub bind_condition-returns-in_err-check-in-Not-clause-few : goal.bind_condition-returns-in_err-check-in-Not-clause-few
bind_condition-returns-in_err-check-in-Not-clause-few t c =
    not_few c.args.branches.now.items c.bind_condition.new.branches.items c.args.cond.now c.in-Not.part c.get.result.now c.in-Not.is c.get.ensures c.bind_condition.ensures.few

pub bind_condition-returns-in_err-new-in-Not-clause-few : goal.bind_condition-returns-in_err-new-in-Not-clause-few
bind_condition-returns-in_err-new-in-Not-clause-few t c =
    not_few c.args.branches.now.items c.bind_condition.new.branches.items c.args.cond.now c.in-Not.part c.get.result.now c.in-Not.is c.get.ensures c.bind_condition.ensures.few

pub bind_condition-returns-in_ok-new-in-Not-clause-few : goal.bind_condition-returns-in_ok-new-in-Not-clause-few
bind_condition-returns-in_ok-new-in-Not-clause-few t c =
    not_few c.args.branches.now.items c.bind_condition.new.branches.items c.args.cond.now c.in-Not.part c.get.result.now c.in-Not.is c.get.ensures c.bind_condition.ensures.few

pub bind_condition-returns-in_err-checks-in-And-clause-few : goal.bind_condition-returns-in_err-checks-in-And-clause-few
bind_condition-returns-in_err-checks-in-And-clause-few t c =
    and_few c.args.branches.now.items c.bind_conditions.new.branches.items c.args.cond.now c.in-And.parts c.as_slice-in-And.result.now c.in-And.is c.as_slice-in-And.ensures c.bind_conditions.ensures.few

pub bind_condition-returns-in_ok-checks-in-And-clause-few : goal.bind_condition-returns-in_ok-checks-in-And-clause-few
bind_condition-returns-in_ok-checks-in-And-clause-few t c =
    and_few c.args.branches.now.items c.bind_conditions.new.branches.items c.args.cond.now c.in-And.parts c.as_slice-in-And.result.now c.in-And.is c.as_slice-in-And.ensures c.bind_conditions.ensures.few

pub bind_condition-returns-in_err-checks-in-Or-clause-few : goal.bind_condition-returns-in_err-checks-in-Or-clause-few
bind_condition-returns-in_err-checks-in-Or-clause-few t c =
    or_few c.args.branches.now.items c.bind_conditions-in-Or.new.branches.items c.args.cond.now c.in-Or.parts c.as_slice-in-Or.result.now c.in-Or.is c.as_slice-in-Or.ensures c.bind_conditions-in-Or.ensures.few

pub bind_condition-returns-in_ok-checks-in-Or-clause-few : goal.bind_condition-returns-in_ok-checks-in-Or-clause-few
bind_condition-returns-in_ok-checks-in-Or-clause-few t c =
    or_few c.args.branches.now.items c.bind_conditions-in-Or.new.branches.items c.args.cond.now c.in-Or.parts c.as_slice-in-Or.result.now c.in-Or.is c.as_slice-in-Or.ensures c.bind_conditions-in-Or.ensures.few

pub bind_conditions-returns-in_err-bind_condition-clause-few : goal.bind_conditions-returns-in_err-bind_condition-clause-few
bind_conditions-returns-in_err-bind_condition-clause-few t c =
    let i = c.loop-cond.cond-index in
    let lt : i < length c.args.conds.now = omega (arith, c.loop-cond-test.true) in
    next_few c.args.branches.now.items c.bind_condition.new.branches.items c.args.conds.now c.loop-cond.branches.items i c.cond-item.result lt c.cond-item.is
    c.bind_condition.ensures.few c.loop-cond.invariant.few

pub bind_conditions-returns-in_err-push-clause-few : goal.bind_conditions-returns-in_err-push-clause-few
bind_conditions-returns-in_err-push-clause-few t c =
    let i = c.loop-cond.cond-index in
    let lt : i < length c.args.conds.now = omega (arith, c.loop-cond-test.true) in
    next_few c.args.branches.now.items c.bind_condition.new.branches.items c.args.conds.now c.loop-cond.branches.items i c.cond-item.result lt c.cond-item.is
    c.bind_condition.ensures.few c.loop-cond.invariant.few

pub bind_conditions-returns-in_err-push-clause-grows : goal.bind_conditions-returns-in_err-push-clause-grows
bind_conditions-returns-in_err-push-clause-grows t c = added_twice _ _ _ c.loop-cond.invariant.grown c.bind_condition.ensures.grows

pub bind_conditions-returns-clause-few : goal.bind_conditions-returns-clause-few
bind_conditions-returns-clause-few t c =
    conditions_few c.args.branches.now.items c.loop-cond.branches.items c.args.conds.now c.loop-cond.cond-index c.loop-cond.invariant.few
