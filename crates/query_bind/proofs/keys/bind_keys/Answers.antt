use Rattle.std.proofs.Common.{◌<◌, arith, length, subst, sym, List}
use Rattle.soql.specs.declared.query.OrderKey.{OrderKey}
use Rattle.model.specs.Shown.{path_steps}
use Rattle.query_plan.specs.declared.plan.SortKey.{SortKey}
use Rattle.query_bind.proofs.Counted.{few_more}
use Rattle.query_plan.proofs.Branching.{added_twice}
use Rattle.query_bind.specs.inner.Ends.{BindsKey, Each}
use Rattle.query_bind.proofs.Keyed.{each_end, each_more, key_later}
use Rattle.query_bind.proofs.keys.bind_keys.Goals as goal

pub loop-key-preserved : goal.loop-key-preserved
loop-key-preserved c =
    let ls = c.args.layouts.now in
    let l = c.args.layout.now in
    let keys = c.args.keys.now in
    let i = c.loop-key.key-index in
    let lt : i < length keys = omega (arith, c.loop-key-test.true) in
    record {
      grown = added_twice _ _ _ c.loop-key.invariant.grown c.bind_key.ensures.grows;
      so_far = each_more (BindsKey ls l) (key_later ls l) c.loop-key.branches.items c.bind_key.new.branches.items c.bind_key.ensures.grows keys i c.key-item.result
          c.loop-key.bound.items c.push.new.self.items c.in_ok-bind_key.field-0 lt c.key-item.is c.in_ok-push.ensures.items c.in_ok-bind_key.ensures.binds c.loop-key.invariant.so_far;
      few = few_more (λ (k : OrderKey). path_steps k.path) c.args.branches.now.items c.loop-key.branches.items c.bind_key.new.branches.items keys i
          c.key-item.result lt c.key-item.is c.bind_key.ensures.few c.loop-key.invariant.few;
    }

pub returns-clause-binds : goal.returns-clause-binds
returns-clause-binds c =
    let P = BindsKey c.args.layouts.now c.args.layout.now in
    let bs = c.loop-key.branches.items in
    subst (λ (ks : List SortKey). Each (P bs) c.args.keys.now ks) (sym c.from_vec.ensures)
    (each_end P bs c.loop-key.invariant.grown.order c.args.keys.now c.loop-key.key-index c.loop-key.bound.items c.loop-key-test.false c.loop-key.invariant.so_far)
