use Rattle.std.proofs.Common.{subst, sym}
use Rattle.store_kv.specs.Draft.{tables_of}
use Rattle.model.specs.Callers.{named_by}
use Rattle.store_abstraction.specs.Operations.{Judges}
use Rattle.store_abstraction.specs.Stands.{Stands}
use Rattle.commands.specs.Load.{batch_does}
use Rattle.commands.proofs.Printouts.{printout_cause, printout_changes, printout_judges, printout_stays}
use Rattle.commands.proofs.load.BatchTableWork.judge.Goals as goal

pub returns-clause-judged : goal.returns-clause-judged
returns-clause-judged g c told w s counted =
    let it = c.args.self.now in
    let named = named_by it.loading.now.org.now it.loading.now.user.now it.loading.now.secret.now in
    let before = tables_of g.K.Keeper.state c.args.draft.now in
    let after = tables_of g.K.Keeper.state c.load_batch-judged.new.draft in
    subst (Judges Stands (batch_does named it.loading.now.plan.now it.rows.now) w after) (sym c.lines_judged.ensures)
    (printout_judges named it.loading.now.plan.now it.rows.now w after c.load_batch-judged.result
    (c.batch_laws.ensures.rows named it.loading.now.plan.now it.rows.now before after c.load_batch-judged.result w s (c.load_batch-judged.ensures.what told)))

pub returns-clause-change : goal.returns-clause-change
returns-clause-change g c change =
    let state = g.K.Keeper.state in
    c.load_batch-judged.ensures.drafts.changing (printout_changes (state c.args.draft.now.keeper.now) (state c.load_batch-judged.new.draft.keeper.now) c.load_batch-judged.result c.lines_judged.result c.lines_judged.ensures change)

pub returns-clause-works : goal.returns-clause-works
returns-clause-works g c = c.load_batch-judged.ensures.drafts.makes.works

pub returns-clause-stays : goal.returns-clause-stays
returns-clause-stays g c =
    let state = g.K.Keeper.state in
    printout_stays (state c.args.draft.now.keeper.now) (state c.load_batch-judged.new.draft.keeper.now) c.load_batch-judged.result c.lines_judged.result c.lines_judged.ensures c.load_batch-judged.ensures.drafts.makes.stays

pub returns-clause-cause : goal.returns-clause-cause
returns-clause-cause g c =
    let state = g.K.Keeper.state in
    printout_cause (state c.args.draft.now.keeper.now) (state c.load_batch-judged.new.draft.keeper.now) c.load_batch-judged.result c.lines_judged.result c.lines_judged.ensures c.load_batch-judged.ensures.drafts.makes.cause
