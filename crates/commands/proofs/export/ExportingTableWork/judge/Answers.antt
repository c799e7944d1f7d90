use Rattle.std.specs.Prelude.{Err}
use Rattle.cmd_export.specs.Exports.{exported}
use Rattle.store_kv.specs.Draft.{tables_of}
use Rattle.model.specs.Callers.{named_by}
use Rattle.model.specs.declared.refusal.Refusal.TheVariants.{InvalidSession}
use Rattle.commands.proofs.OfExport.{exported_cause, exported_change, exported_judged, exported_stays}
use Rattle.commands.proofs.export.ExportingTableWork.judge.Goals as goal

pub returns-clause-judged : goal.returns-clause-judged
returns-clause-judged g c told w s counted =
    let it = c.args.self.now in
    exported_judged it.org.now it.user.now it.secret.now it.query.now it.now w (tables_of g.K.Keeper.state c.answer_asked-judged.new.draft) c.answer_asked-judged.result c.printout_judged.result c.printout_judged.ensures
    (c.asking_laws.ensures.world (exported it.query.now) (Err InvalidSession) it.now (named_by it.org.now it.user.now it.secret.now) (tables_of g.K.Keeper.state c.args.draft.now) (tables_of g.K.Keeper.state c.answer_asked-judged.new.draft) c.answer_asked-judged.result w s
    (c.answer_asked-judged.ensures.what told))

pub returns-clause-change : goal.returns-clause-change
returns-clause-change g c change = c.answer_asked-judged.ensures.drafts.changing (exported_change c.answer_asked-judged.result c.printout_judged.result c.printout_judged.ensures change)

pub returns-clause-works : goal.returns-clause-works
returns-clause-works g c = c.answer_asked-judged.ensures.drafts.makes.works

pub returns-clause-stays : goal.returns-clause-stays
returns-clause-stays g c =
    let state = g.K.Keeper.state in
    exported_stays (state c.args.draft.now.keeper.now) (state c.answer_asked-judged.new.draft.keeper.now) c.answer_asked-judged.result c.printout_judged.result c.printout_judged.ensures c.answer_asked-judged.ensures.drafts.makes.stays

pub returns-clause-cause : goal.returns-clause-cause
returns-clause-cause g c =
    let state = g.K.Keeper.state in
    exported_cause (state c.args.draft.now.keeper.now) (state c.answer_asked-judged.new.draft.keeper.now) c.answer_asked-judged.result c.printout_judged.result c.printout_judged.ensures c.answer_asked-judged.ensures.drafts.makes.cause
