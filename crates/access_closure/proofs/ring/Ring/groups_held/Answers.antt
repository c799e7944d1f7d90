use Rattle.std.proofs.Common.{◌<◌, ◌∙◌, ap, get_or, length, arith}
use Rattle.std.specs.List.{list_any}
use Rattle.access_closure.specs.Held.{is_held_directly}
use Rattle.access_closure.proofs.Looping.{mapped}
use Rattle.access_closure.proofs.ring.Ring.groups_held.Goals as goal

pub loop-group-preserved : goal.loop-group-preserved
loop-group-preserved c =
    let groups = c.args.people.now.groups.items in
    let is_held = is_held_directly c.args.people.now c.args.self.now in
    let lt : c.loop-group.group-index < length groups = omega (arith, c.loop-group-test.true) in
    λ order. mapped (λ g. list_any is_held g.members) groups c.loop-group.group-index c.group-item.result c.loop-group.flags.items c.push.new.self.items c.holds_one_of.result lt (c.group-item.is ∙ ap (λ gs. get_or gs c.loop-group.group-index c.group-item.result) c.as_slice-groups.ensures.value) c.in_ok-push.ensures.items
    (c.holds_one_of.ensures order ∙ ap (list_any is_held) c.as_slice.ensures) (c.loop-group.invariant order)
