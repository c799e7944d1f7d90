use Rattle.std.proofs.Common.{◌∙◌, ap₂, nat_le, sym}
use Rattle.access_user.proofs.Whole.{settled_is}
use Rattle.access_user.proofs.level.levels.is_settled.Goals as goal

pub returns-clause-settled : goal.returns-clause-settled
returns-clause-settled c = λ t u r e is. settled_is t u r c.args.asked c.args.apart (sym (ap₂ nat_le c.rank.ensures c.rank-2.ensures) ∙ e) is
