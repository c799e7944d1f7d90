use Rattle.std.proofs.Common.{sym, subst}
use Rattle.cmd_auth.specs.Judging.{JudgesAsked}
use Rattle.cmd_export.specs.Exports.{exported}
use Rattle.store_kv.specs.Draft.{tables_of}
use Rattle.cmd_export.proofs.Exported.{judges_read}
use Rattle.cmd_export.proofs.export.ExportAsk.judge.Goals as goal

pub returns-clause-what : goal.returns-clause-what
returns-clause-what g c told =
    let state = g.K.Keeper.state in
    let text = c.args.self.now.query.now in
    let before = tables_of state c.args.draft.now in
    let after = tables_of state c.export_text.new.draft in
    subst (JudgesAsked (exported text) c.args.caller.now c.args.now before after) (sym c.unchanged.ensures)
    (judges_read text c.args.caller.now c.args.now before after c.export_text.result (c.export_text.ensures.what told))
