use Rattle.std.proofs.Common.{List, subst, ℤ}
use Rattle.soql.specs.declared.query.OrderKey.{OrderKey}
use Rattle.query_plan.proofs.Branching.{added_twice}
use Rattle.query_bind.specs.inner.Ends.{BindsKey, Each}
use Rattle.query_bind.specs.inner.Tails.{BindsWhere}
use Rattle.query_bind.proofs.Bound.{same_day}
use Rattle.query_bind.proofs.Tailed.{tail_bound}
use Rattle.query_bind.proofs.choosing.bind_tail.Goals as goal

pub returns-clause-binds : goal.returns-clause-binds
returns-clause-binds c =
    let ls = c.args.layouts.now in
    let l = c.args.layout.now in
    let tail = c.args.tail.now in
    let mid = c.bind_where.new.branches.items in
    let new = c.bind_keys.new.branches.items in
    tail_bound ls l c.args.day tail mid new c.bind_keys.ensures.grows (record { check = c.in_ok-check.check; order = c.in_ok-order.order })
    (subst (λ (d : ℤ). BindsWhere ls l d mid tail.condition c.in_ok-check.check) (same_day c.args.day c.ranges.day) c.in_ok-check.ensures.binds)
    (subst (λ (ks : List OrderKey). Each (BindsKey ls l new) ks c.in_ok-order.order) c.as_slice.ensures c.in_ok-order.ensures.binds)

pub returns-clause-grows : goal.returns-clause-grows
returns-clause-grows c = added_twice _ _ _ c.bind_where.ensures.grows c.bind_keys.ensures.grows

pub returns-in_err-order-clause-grows : goal.returns-in_err-order-clause-grows
returns-in_err-order-clause-grows c = added_twice _ _ _ c.bind_where.ensures.grows c.bind_keys.ensures.grows
