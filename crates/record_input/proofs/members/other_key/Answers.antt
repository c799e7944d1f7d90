use Rattle.std.proofs.Common.{ap, sym, ◌∙◌}
use Rattle.std.specs.Option.{option_map}
use Rattle.record_input.specs.Given.{key_in}
use Rattle.record_input.proofs.BadMembers.{key_passes, key_refused}
use Rattle.record_input.proofs.members.other_key.Goals as goal

pub returns-in_ok-name-in-Some : goal.returns-in_ok-name-in-Some
returns-in_ok-name-in-Some c plain t known =
    let k = c.in-Some.key in
    let other = c.in_ok-gives_other-in-Some.ensures (plain k c.in-Some.is) t (known (key_in k) (ap (option_map key_in) c.in-Some.is)) in
    key_refused t c.args.key.now k c.args.member.now c.in_ok-name-in-Some.name c.in-Some.is (sym other ∙ c.if-branch.true) c.in_ok-name-in-Some.ensures

pub returns-else-branch : goal.returns-else-branch
returns-else-branch c plain t known =
    let k = c.in-Some.key in
    let other = c.in_ok-gives_other-in-Some.ensures (plain k c.in-Some.is) t (known (key_in k) (ap (option_map key_in) c.in-Some.is)) in
    key_passes t c.args.key.now k c.args.member.now c.in-Some.is (sym other ∙ c.if-branch.false)
