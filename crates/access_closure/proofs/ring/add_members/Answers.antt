use Rattle.std.proofs.Common.{◌++◌, ◌<◌, length, refl, arith}
use Rattle.access_closure.specs.inner.Rings.{member_edge, member_edges}
use Rattle.access_closure.proofs.Looping.{added_here}
use Rattle.access_closure.proofs.ring.add_members.Goals as goal

pub loop-member-preserved : goal.loop-member-preserved
loop-member-preserved c =
    let members = c.args.members.now in
    let groups = c.args.groups.now in
    let place = c.args.place in
    let lt : c.loop-member.member-index < length members = omega (arith, c.loop-member-test.true) in
    λ rise. added_here (member_edges groups place) (member_edge groups place) (λ p ps. refl) members c.loop-member.member-index c.member-item.result c.loop-member.edges.items c.add_member.new.edges.items
    (c.args.edges.now.items ++ member_edges groups place members) lt c.member-item.is (c.in_ok-add_member.ensures rise) (c.loop-member.invariant rise)
