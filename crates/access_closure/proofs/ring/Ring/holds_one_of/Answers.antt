use Rattle.std.proofs.Common.{◌<◌, ◌∙◌, length, sym, arith}
use Rattle.access_closure.specs.Held.{is_held_directly}
use Rattle.access_closure.proofs.Looping.{any_here, any_on}
use Rattle.access_closure.proofs.ring.Ring.holds_one_of.Goals as goal

pub returns-then-holds_directly : goal.returns-then-holds_directly
returns-then-holds_directly c =
    let members = c.args.members.now in
    let lt : c.loop-member.member-index < length members = omega (arith, c.loop-member-test.true) in
    λ order. any_here (is_held_directly c.args.people.now c.args.self.now) members c.loop-member.member-index c.member-item.result lt c.member-item.is
    (sym (c.holds_directly.ensures order) ∙ c.if-holds_directly.true) (c.loop-member.invariant order)

pub loop-member-preserved : goal.loop-member-preserved
loop-member-preserved c =
    let members = c.args.members.now in
    let lt : c.loop-member.member-index < length members = omega (arith, c.loop-member-test.true) in
    λ order. any_on (is_held_directly c.args.people.now c.args.self.now) members c.loop-member.member-index c.member-item.result lt c.member-item.is
    (sym (c.holds_directly.ensures order) ∙ c.if-holds_directly.false) (c.loop-member.invariant order)
