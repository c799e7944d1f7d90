use Rattle.std.proofs.Common.{◌++◌, ◌<◌, ◌∙◌, ap, length, refl, arith}
use Rattle.access_closure.specs.inner.Rings.{group_edges, member_edges}
use Rattle.access_closure.proofs.Looping.{added}
use Rattle.access_closure.proofs.ring.group_edges.Goals as goal

pub loop-group-preserved : goal.loop-group-preserved
loop-group-preserved c =
    let groups = c.args.groups.now in
    let place = c.loop-group.place in
    let lt : c.loop-group.group-index < length groups = omega (arith, c.loop-group-test.true) in (
      omega (arith, c.loop-group.invariant.0),
      λ rise. added (group_edges groups) (λ n g. member_edges groups n g.members) (λ n g gs. refl) groups c.loop-group.group-index c.group-item.result place c.loop-group.edges.items c.add_members.new.edges.items
          (group_edges groups 0 groups) lt c.group-item.is
          (c.in_ok-add_members.ensures rise ∙ ap (λ ms. c.loop-group.edges.items ++ member_edges groups place ms) c.as_slice.ensures) (c.loop-group.invariant.1 rise),
    )
