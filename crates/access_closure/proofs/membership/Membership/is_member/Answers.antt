use Rattle.std.proofs.Common.{◌∙◌, refl}
use Rattle.access_closure.proofs.Reaching.{in_order}
use Rattle.access_closure.proofs.membership.Membership.is_member.Goals as goal

pub returns : goal.returns
returns c = λ org t u among m. c.holds.ensures (in_order org t c.args.people.now among.rows among.sound) ∙ m.members org t u among refl c.args.principal.now
