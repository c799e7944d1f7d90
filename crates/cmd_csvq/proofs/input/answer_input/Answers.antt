use Rattle.std.proofs.Common.{◌≡◌, ◌∙◌, List, ap, arith, map, pos, subst}
use Rattle.std.specs.Prelude.{IfOk}
use Rattle.csv.specs.Records.{Row, fields_of}
use Rattle.cmd_csvq.specs.Outcomes.{table_outcome}
use Rattle.cmd_csvq.specs.declared.outcome.Outcome.{Outcome}
use Rattle.cmd_csvq.proofs.Turns.{record_refused, table_answered, told_row, too_large}
use Rattle.cmd_csvq.proofs.input.answer_input.Goals as goal

pub returns-then-bytes-gt-INPUT_LIMIT : goal.returns-then-bytes-gt-INPUT_LIMIT
returns-then-bytes-gt-INPUT_LIMIT c = too_large c.args.query.now c.args.now c.args.bytes.now (omega arith)

pub returns-in-Ok : goal.returns-in-Ok
returns-in-Ok c =
    subst (λ (x : Outcome). IfOk c.answer_records.result (λ o. o ≡ x))
    (ap (λ (rs : List Row). table_outcome c.args.query.now (pos c.args.now) (map fields_of rs)) c.as_slice.ensures.value
    ∙ table_answered c.args.query.now c.args.now c.args.bytes.now (omega arith) c.in-Ok.ensures.accepted _ c.in-Ok.ensures.records)
    c.answer_records.ensures

pub returns-in-Err-Refused : goal.returns-in-Err-Refused
returns-in-Err-Refused c =
    let is = c.in-Err-Refused.field-0-is in
    rw is (record_refused c.args.query.now c.args.now c.args.bytes.now (omega arith) _ (told_row c.args.bytes.now _ _ _ _ is c.in-Err-Refused.ensures.refused))
