use Rattle.std.proofs.Common.{◌<◌, length, refl, arith}
use Rattle.access_closure.specs.inner.Chosen.{edges_up, up_edge}
use Rattle.access_closure.proofs.Looping.{added}
use Rattle.access_closure.proofs.roles.edges_up.Goals as goal

pub loop-role-preserved : goal.loop-role-preserved
loop-role-preserved c =
    let roles = c.args.roles.now in
    let lt : c.loop-role.role-index < length roles = omega (arith, c.loop-role-test.true) in (
      omega (arith, c.loop-role.invariant.0),
      λ rise. added (edges_up roles) (up_edge roles) (λ n r rs. refl) roles c.loop-role.role-index c.role-item.result c.loop-role.place c.loop-role.edges.items c.add_up.new.edges.items (edges_up roles 0 roles)
          lt c.role-item.is (c.in_ok-add_up.ensures rise) (c.loop-role.invariant.1 rise),
    )
