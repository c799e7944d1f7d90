use Rattle.std.proofs.Common.{arith}
use Rattle.record_index.proofs.CopiedText.{place_there}
use Rattle.record_index.proofs.TurnedValues.{field_typed, field_valid}
use Rattle.record_save.proofs.staying.conflict.Goals as goal

pub copied_value-requires-clause-from : goal.copied_value-requires-clause-from
copied_value-requires-clause-from c =
    field_typed c.args.layout.now c.in-Some.job.field c.in-Some-get.field.now c.requires.types
    (place_there c.args.layout.now c.in-Some.job.field c.from.result c.in-Some-get.field.now (omega arith) c.in-Some-get.ensures.value)

pub copied_value-requires-clause-valid : goal.copied_value-requires-clause-valid
copied_value-requires-clause-valid c =
    field_valid c.args.layout.now c.args.new.now.values c.in-Some.job.field c.in-Some-get.field.now c.requires.values
    (place_there c.args.layout.now c.in-Some.job.field c.from.result c.in-Some-get.field.now (omega arith) c.in-Some-get.ensures.value)
