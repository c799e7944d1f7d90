use Rattle.std.proofs.Common.{sym, ◌∙◌}
use Rattle.store_kv.specs.Draft.{tables_of}
use Rattle.record_read.proofs.Ended.{made_calls}
use Rattle.record_constraints.proofs.References.{owner_found, owner_stays, refused_is_made}
use Rattle.record_constraints.proofs.targets.bad_owner.Goals as goal

pub returns-then-eq-clause-finds : goal.returns-then-eq-clause-finds
returns-then-eq-clause-finds g c told =
    owner_stays c.args.layout.now (tables_of g.K.Keeper.state c.args.draft.now) c.args.old.now c.args.new.now (sym c.eq.ensures ∙ c.if-eq.true)

pub returns-clause-finds : goal.returns-clause-finds
returns-clause-finds g c told =
    owner_found c.args.layout.now (tables_of g.K.Keeper.state c.args.draft.now) c.args.old.now c.args.new.now (sym c.eq.ensures ∙ c.if-eq.false)
    c.has_owner-there.result (c.has_owner-there.ensures.finds told) c.refused_unless.result c.refused_unless.ensures.refused

pub returns-clause-calls : goal.returns-clause-calls
returns-clause-calls g c =
    let there = c.has_owner-there.result in
    made_calls g.K.Keeper.state 0 c.args.draft.now c.has_owner-there.new.draft there _ c.refused_unless.result (refused_is_made _ there) c.refused_unless.ensures.refused c.refused_unless.ensures.failed c.has_owner-there.ensures.calls
