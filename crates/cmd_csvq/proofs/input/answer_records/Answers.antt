use Rattle.std.proofs.Common.{◌∙◌, List, [], ap, map, pos, subst, sym}
use Rattle.csv.specs.Records.{Row, fields_of}
use Rattle.store_kv.specs.Tables.{Tables}
use Rattle.store_abstraction.specs.Stands.{Stands}
use Rattle.cmd_csvq.specs.Outcomes.{table_outcome}
use Rattle.cmd_sandbox.proofs.Fresh.{never_fails, no_tables}
use Rattle.cmd_csvq.proofs.Turns.{no_record}
use Rattle.cmd_csvq.proofs.input.answer_records.Goals as goal

pub returns-in_default : goal.returns-in_default
returns-in_default c = no_record c.args.query.now c.args.now c.args.records.now c.in_default.ensures.cases

pub returns-in-Ok : goal.returns-in-Ok
returns-in-Ok c =
    let stands = subst (λ (m : Tables). Stands m []) (sym (no_tables c.new-draft.result _ c.new-draft.ensures.empty c.new-draft.ensures.same c.in_ok-keeper.ensures.no_rows)) c.stands_laws.ensures.empty in
    let sure = never_fails c.new-draft.result _ c.new-draft.ensures.same c.in_ok-keeper.ensures.failing in
    c.in-Ok.ensures stands sure ∙ ap (λ (rs : List Row). table_outcome c.args.query.now (pos c.args.now) (map fields_of rs)) (sym c.in-Some.ensures.cases.0)
