use Rattle.std.proofs.Common.{sym, ◌∙◌}
use Rattle.record_save.proofs.EndedShares.{ends_all}
use Rattle.record_save.proofs.shares.ended_shares.Goals as goal

pub returns-else-eq-clause-ends : goal.returns-else-eq-clause-ends
returns-else-eq-clause-ends g c told q t s =
    ends_all c.args.org t c.args.old.now c.args.new.now (sym c.eq.ensures ∙ c.if-eq.false) c.shares_of.result (c.shares_of.ensures.lists told q t s)
