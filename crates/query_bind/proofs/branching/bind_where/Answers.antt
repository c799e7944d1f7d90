use Rattle.std.proofs.Common.{Option, Some, subst, sym, ℤ}
use Rattle.soql.specs.declared.query.Cond.{Cond}
use Rattle.query_bind.specs.inner.Tails.{BindsCondition, BindsWhere}
use Rattle.query_bind.proofs.Bound.{same_day}
use Rattle.query_bind.proofs.Conditioned.{some_where}
use Rattle.query_bind.proofs.branching.bind_where.Goals as goal

pub returns-in_ok-bind_condition-in-Some-clause-binds : goal.returns-in_ok-bind_condition-in-Some-clause-binds
returns-in_ok-bind_condition-in-Some-clause-binds c =
    let ls = c.args.layouts.now in
    let l = c.args.layout.now in
    let bs = c.bind_condition.new.branches.items in
    let k = c.in_ok-bind_condition-in-Some.field-0 in
    subst (λ (o : Option Cond). BindsWhere ls l c.args.day bs o (Some k)) (sym c.in-Some.is)
    (some_where ls l c.args.day bs c.in-Some.cond k
    (subst (λ (d : ℤ). BindsCondition ls l d bs c.in-Some.cond k) (same_day c.args.day c.ranges.day) c.in_ok-bind_condition-in-Some.ensures.binds))
