use Rattle.std.proofs.Common.{◌∙◌, ◌++◌, ◌∷◌, [], ℕ, ap, subst, ℤ}
use Rattle.query_plan.specs.declared.plan.Shown.TheVariants as shown
use Rattle.query_bind.specs.inner.Selecting.{BindsChild}
use Rattle.query_bind.proofs.Bound.{same_day}
use Rattle.query_bind.proofs.Counted.{one_child}
use Rattle.query_bind.proofs.selecting.bind_child_item.Goals as goal

pub returns : goal.returns
returns c =
    let child = c.in_ok-child.child in
    record {
      adds = record {
        child = child;
        binds = subst (λ (d : ℤ). BindsChild c.args.layouts.now c.args.layout.now d c.args.paths.now c.args.tail.now child) (same_day c.args.day c.ranges.day) c.in_ok-child.ensures.binds;
        grown = c.in_ok-push.ensures.items ∙ ap (λ (n : ℕ). c.args.shown.now.items ++ shown.Children child.name n child.object child.members ∷ []) (c.len.ensures ∙ c.args.children.now.ok.0);
        planned = c.in_ok-push-2.ensures.items;
      };
      few = one_child c.args.children.now.items _ child.plan _ c.in_ok-push-2.ensures.items c.in_ok-child.ensures.few;
    }
