use Rattle.store_abstraction.proofs.Called.{calls_of}
use Rattle.schema_rules.proofs.rows.page_of.Goals as goal

pub returns-clause-calls : goal.returns-clause-calls
returns-clause-calls g c =
    let read = c.page_under.ensures in
    calls_of g.K.Keeper.state 0 c.args.draft.now c.page_under.new.draft c.page_under.result read.reads read.stays read.cause read.quiet
