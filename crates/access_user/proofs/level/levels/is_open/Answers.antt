use Rattle.std.proofs.Common.{◌∙◌, ap, ap₂, nat_le, sym}
use Rattle.model.specs.Levels.{by_access, rank}
use Rattle.access_user.proofs.Whole.{readable_is}
use Rattle.access_user.proofs.level.levels.is_open.Goals as goal

pub returns-clause-value : goal.returns-clause-value
returns-clause-value c = ap₂ nat_le c.rank.ensures (c.rank-2.ensures ∙ ap rank c.by_access.ensures)

pub returns-clause-readable : goal.returns-clause-readable
returns-clause-readable c = λ t u o r e at same.
    readable_is t u r o at c.by_access.result (c.by_access.ensures ∙ ap by_access (sym same)) (sym (ap₂ nat_le c.rank.ensures c.rank-2.ensures) ∙ e)
