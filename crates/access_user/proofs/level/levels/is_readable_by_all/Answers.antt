use Rattle.std.proofs.Common.{◌∙◌, ap₂, nat_le, sym}
use Rattle.access_user.proofs.Whole.{readable_is}
use Rattle.access_user.proofs.level.levels.is_readable_by_all.Goals as goal

pub returns : goal.returns
returns c = λ people t u o r e at is. readable_is t u r o at c.args.own.now.base is.base (sym (ap₂ nat_le c.rank.ensures c.rank-2.ensures) ∙ e)
