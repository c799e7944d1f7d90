use Rattle.std.proofs.Common.{cond, None, refl}
use Rattle.std.specs.Prelude.{Ok, bytes_eq, codes}
use Rattle.std.specs.Str.{chars}
use Rattle.model.specs.Principals.{bad_id}
use Rattle.access_shares.proofs.MemberNames.{other_member, this_member}
use Rattle.access_shares.proofs.texts.check_member.Goals as goal

pub returns-then-is_named-clause-passes : goal.returns-then-is_named-clause-passes
unfolding chars
returns-then-is_named-clause-passes c =
    let new = c.args.new.now in
    let member = c.args.member.now in
    this_member (bytes_eq (codes "record") member) (bad_id new.item) (cond (bytes_eq (codes "to") member) (bad_id new.to.text) None) c.check_id.result c.if-is_named.ensures c.check_id.ensures.passes

pub returns-then-is_named-2-clause-passes : goal.returns-then-is_named-2-clause-passes
unfolding chars
returns-then-is_named-2-clause-passes c =
    let new = c.args.new.now in
    let member = c.args.member.now in
    let r = c.check_id-then-is_named-2.result in
    other_member (bytes_eq (codes "record") member) (bad_id new.item) (cond (bytes_eq (codes "to") member) (bad_id new.to.text) None) r c.if-is_named.ensures
    (this_member (bytes_eq (codes "to") member) (bad_id new.to.text) None r c.if-is_named-2.ensures c.check_id-then-is_named-2.ensures.passes)

pub returns-else-is_named-2-clause-passes : goal.returns-else-is_named-2-clause-passes
unfolding chars
returns-else-is_named-2-clause-passes c =
    let new = c.args.new.now in
    let member = c.args.member.now in
    other_member (bytes_eq (codes "record") member) (bad_id new.item) (cond (bytes_eq (codes "to") member) (bad_id new.to.text) None) (Ok tt) c.if-is_named.ensures
    (other_member (bytes_eq (codes "to") member) (bad_id new.to.text) None (Ok tt) c.if-is_named-2.ensures (refl, tt))
