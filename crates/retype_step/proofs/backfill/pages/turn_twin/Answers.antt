use Rattle.std.proofs.Common.{◌≡◌, ℕ, suc, true, arith, subst, sym}
use Rattle.formula.specs.Meaning.{value_at}
use Rattle.record_index.proofs.CopiedText.{place_there}
use Rattle.record_index.proofs.TurnedValues.{field_typed, field_valid}
use Rattle.retype_step.proofs.Twins.{field_after}
use Rattle.retype_step.proofs.backfill.pages.turn_twin.Goals as goal
use Rattle.base_value.specs.Values.{valid}

pub beside_value-requires-clause-from : goal.beside_value-requires-clause-from
beside_value-requires-clause-from c =
    field_typed c.args.layout.now c.in-Some.job.field c.in-Some-get.field.now c.requires.types
    (place_there c.args.layout.now c.in-Some.job.field c.from.result c.in-Some-get.field.now (omega arith) c.in-Some-get.ensures.value)

pub beside_value-requires-clause-valid : goal.beside_value-requires-clause-valid
beside_value-requires-clause-valid c =
    field_valid c.args.layout.now c.args.item.now.values c.in-Some.job.field c.in-Some-get.field.now c.requires.values
    (place_there c.args.layout.now c.in-Some.job.field c.from.result c.in-Some-get.field.now (omega arith) c.in-Some-get.ensures.value)

pub beside_value-requires-2-clause-from : goal.beside_value-requires-2-clause-from
beside_value-requires-2-clause-from c =
    field_typed c.args.layout.now c.in-Some.job.field c.in-Some-get.field.now c.requires.types
    (place_there c.args.layout.now c.in-Some.job.field c.from.result c.in-Some-get.field.now (omega arith) c.in-Some-get.ensures.value)

pub beside_value-requires-2-clause-valid : goal.beside_value-requires-2-clause-valid
beside_value-requires-2-clause-valid c =
    subst (λ (i : ℕ). valid c.in-Some-get.field.now.kind (value_at c.args.item.now.values (suc i)) ≡ true)
    (sym (field_after c.args.layout.now c.args.come.now c.requires.come.0 c.requires.come.1 c.in-Some.job c.in-Some-job.after c.in-Some.is c.in-Some-job.is))
    (field_valid c.args.layout.now c.args.item.now.values c.in-Some.job.field c.in-Some-get.field.now c.requires.values
    (place_there c.args.layout.now c.in-Some.job.field c.from.result c.in-Some-get.field.now (omega arith) c.in-Some-get.ensures.value))
