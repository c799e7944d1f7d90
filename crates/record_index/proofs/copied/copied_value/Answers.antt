use Rattle.std.proofs.Common.{◌+◌, sym, ◌∙◌, arith}
use Rattle.std.proofs.lemmas.Result.{IfOk-weaker}
use Rattle.record_index.proofs.CopiedText.{missing_copied, missing_valid, there_copied, there_valid}
use Rattle.record_index.proofs.copied.copied_value.Goals as goal

pub converted-requires-clause-valid : goal.converted-requires-clause-valid
converted-requires-clause-valid c =
    missing_valid c.args.field.now.kind c.args.item.now.values c.args.job.now.field (c.from.result + 1) (omega arith) c.in-None.ensures.value c.requires.valid

pub converted-requires-in-Some-clause-valid : goal.converted-requires-in-Some-clause-valid
converted-requires-in-Some-clause-valid c =
    there_valid c.args.field.now.kind c.args.item.now.values c.args.job.now.field (c.from.result + 1) c.in-Some.value.now (omega arith) c.in-Some.ensures.value c.requires.valid

pub returns-in-None : goal.returns-in-None
returns-in-None c = record {
  value = IfOk-weaker c.converted.result _ _
      (λ found e. e ∙ missing_copied c.args.job.now c.args.item.now (c.from.result + 1) (sym c.is_copied.ensures ∙ c.if-not-is_copied.false) (omega arith) c.in-None.ensures.value)
      c.converted.ensures.value;
}

pub returns-in-Some : goal.returns-in-Some
returns-in-Some c = record {
  value = IfOk-weaker c.converted-in-Some.result _ _
      (λ found e. e ∙ there_copied c.args.job.now c.args.item.now (c.from.result + 1) c.in-Some.value.now (sym c.is_copied.ensures ∙ c.if-not-is_copied.false) (omega arith) c.in-Some.ensures.value)
      c.converted-in-Some.ensures.value;
}
