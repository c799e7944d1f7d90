use Rattle.std.proofs.Common.{◌≡◌, ◌+◌, ◌∙◌, ℕ, suc, None, Some, sym, ap, arith}
use Rattle.std.specs.Prelude.{is_none, slice_get}
use Rattle.std.proofs.lemmas.Result.{IfOk-weaker}
use Rattle.retype_step.proofs.deciding.is_bad.Goals as goal
use Rattle.retype_step.specs.inner.Deciding.{is_bad_by}
use Rattle.store_rows.specs.declared.job.JobRow.{JobRow}
use Rattle.model.specs.declared.record.Record.{Record}
use Rattle.record_index.proofs.CopiedText.{missing_valid, there_valid}
use Rattle.record_index.proofs.TurnedValues.{value_missing, value_there}
use Rattle.base_value.specs.Conversion.{convert}
use Rattle.base_value.specs.declared.value.Value.{Value}
use Rattle.base_value.specs.declared.value.Value.TheVariants as value

missing_bad : (row : JobRow) (r : Record) (k : ℕ) → k ≡ suc row.field → None ≡ slice_get r.values k → is_none (convert row.kind value.Null) ≡ is_bad_by row r
missing_bad row r k same e = ap (λ (v : Value). is_none (convert row.kind v)) (sym (value_missing r.values (suc row.field) (ap (slice_get r.values) (sym same) ∙ sym e)))

there_bad : (row : JobRow) (r : Record) (k : ℕ) (v : Value) → k ≡ suc row.field → Some v ≡ slice_get r.values k → is_none (convert row.kind v) ≡ is_bad_by row r
there_bad row r k v same e = ap (λ (v : Value). is_none (convert row.kind v)) (sym (value_there r.values (suc row.field) v (ap (slice_get r.values) (sym same) ∙ sym e)))

pub is_bad_value-requires-clause-valid : goal.is_bad_value-requires-clause-valid
is_bad_value-requires-clause-valid c =
    missing_valid c.args.field.now.kind c.args.item.now.values c.args.row.now.field (c.from.result + 1) (omega arith) c.in-None.ensures.value c.requires.valid

pub is_bad_value-requires-in-Some-clause-valid : goal.is_bad_value-requires-in-Some-clause-valid
is_bad_value-requires-in-Some-clause-valid c =
    there_valid c.args.field.now.kind c.args.item.now.values c.args.row.now.field (c.from.result + 1) c.in-Some.value.now (omega arith) c.in-Some.ensures.value c.requires.valid

pub returns-in-None : goal.returns-in-None
returns-in-None c =
    IfOk-weaker c.is_bad_value.result _ _
    (λ bad e. e ∙ missing_bad c.args.row.now c.args.item.now (c.from.result + 1) (omega arith) c.in-None.ensures.value)
    c.is_bad_value.ensures

pub returns-in-Some : goal.returns-in-Some
returns-in-Some c =
    IfOk-weaker c.is_bad_value-in-Some.result _ _
    (λ bad e. e ∙ there_bad c.args.row.now c.args.item.now (c.from.result + 1) c.in-Some.value.now (omega arith) c.in-Some.ensures.value)
    c.is_bad_value-in-Some.ensures
