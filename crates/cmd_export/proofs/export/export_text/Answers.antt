use Rattle.std.proofs.Common.{◌≡◌, ℕ, Result, Ok, subst, sym, ◌∙◌}
use Rattle.cmd_export.specs.Exports.{exported_read}
use Rattle.cmd_export.specs.inner.Unchanged.{IsExport}
use Rattle.store_kv.specs.Draft.{removals_of}
use Rattle.store_kv.specs.State.{data_table}
use Rattle.soql.specs.declared.query.Query.{Query}
use Rattle.soql.specs.grammar.Spelling.{reads_query}
use Rattle.store_abstraction.specs.Calls.{Calls, ended}
use Rattle.model.specs.Shown.{further_to, shown_beside}
use Rattle.cmd_export.proofs.Exported.{read_done, read_refused}
use Rattle.cmd_export.proofs.export.export_text.Goals as goal

pub returns-in-Ok-clause-what : goal.returns-in-Ok-clause-what
returns-in-Ok-clause-what g c told p a s asking =
    let read : reads_query c.args.text.now ≡ Ok c.in-Ok.query = read_done (reads_query c.args.text.now) c.in-Ok.query (sym c.in-Ok.is ∙ c.in_ok-query.ensures) in
    subst (λ (q : Result Query ℕ). IsExport (exported_read a q) c.export_query.result) (sym read) (c.export_query.ensures.what told p a s asking)

pub returns-in-Err-clause-what : goal.returns-in-Err-clause-what
returns-in-Err-clause-what g c told p a s asking = read_refused a (reads_query c.args.text.now) c.in-Err.refusal (sym c.in-Err.is ∙ c.in_ok-query.ensures)

pub returns-in-Ok-clause-calls : goal.returns-in-Ok-clause-calls
returns-in-Ok-clause-calls g c =
    let state = g.K.Keeper.state in
    let removed = removals_of state data_table c.args.draft.now in
    let read : reads_query c.args.text.now ≡ Ok c.in-Ok.query = read_done (reads_query c.args.text.now) c.in-Ok.query (sym c.in-Ok.is ∙ c.in_ok-query.ensures) in
    subst (λ (q : Result Query ℕ). Calls state (shown_beside (further_to q) removed) (ended c.export_query.result) c.args.draft.now c.export_query.new.draft) (sym read) c.export_query.ensures.calls
