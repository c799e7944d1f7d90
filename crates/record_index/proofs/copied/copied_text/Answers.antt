use Rattle.std.proofs.Common.{List, ℕ, Option, sym, subst, ◌∙◌, arith}
use Rattle.std.specs.Prelude.{IfSome}
use Rattle.std.proofs.lemmas.Result.{IfOk-weaker}
use Rattle.store_codec.specs.Plain.{FitsText}
use Rattle.record_index.proofs.CopiedText.{IsCopy, copied_in, copy_fits, place_there}
use Rattle.record_index.proofs.TurnedValues.{field_typed, field_valid}
use Rattle.record_index.proofs.copied.copied_text.Goals as goal

pub copied_value-requires-clause-from : goal.copied_value-requires-clause-from
copied_value-requires-clause-from c =
    field_typed c.args.layout.now c.args.job.now.field c.in-Some.field.now c.requires.types
    (place_there c.args.layout.now c.args.job.now.field c.from.result c.in-Some.field.now (omega arith) c.in-Some.ensures.value)

pub copied_value-requires-clause-valid : goal.copied_value-requires-clause-valid
copied_value-requires-clause-valid c =
    field_valid c.args.layout.now c.args.item.now.values c.args.job.now.field c.in-Some.field.now c.requires.values
    (place_there c.args.layout.now c.args.job.now.field c.from.result c.in-Some.field.now (omega arith) c.in-Some.ensures.value)

pub plain_text-requires-clause-printable : goal.plain_text-requires-clause-printable
plain_text-requires-clause-printable c =
    let copy : IsCopy c.args.job.now.kind c.in-Some-2.value =
    copied_in c.value_laws.ensures.converted c.args.layout.now c.args.job.now c.in-Some.field.now c.args.item.now c.in-Some-2.value c.requires.types c.requires.values c.requires.converts c.requires.job
    (place_there c.args.layout.now c.args.job.now.field c.from.result c.in-Some.field.now (omega arith) c.in-Some.ensures.value)
    (sym c.in-Some-2.is ∙ c.in_ok-copied_value.ensures.value)
    in
    c.value_laws.ensures.printable c.args.job.now.kind c.in-Some-2.value copy.valued

pub plain_text-requires-clause-plain : goal.plain_text-requires-clause-plain
plain_text-requires-clause-plain c =
    let copy : IsCopy c.args.job.now.kind c.in-Some-2.value =
    copied_in c.value_laws.ensures.converted c.args.layout.now c.args.job.now c.in-Some.field.now c.args.item.now c.in-Some-2.value c.requires.types c.requires.values c.requires.converts c.requires.job
    (place_there c.args.layout.now c.args.job.now.field c.from.result c.in-Some.field.now (omega arith) c.in-Some.ensures.value)
    (sym c.in-Some-2.is ∙ c.in_ok-copied_value.ensures.value)
    in
    c.value_laws.ensures.plain c.args.job.now.kind c.in-Some-2.value copy.plain copy.valued

pub returns-in-Some-2-clause-fits : goal.returns-in-Some-2-clause-fits
returns-in-Some-2-clause-fits c =
    let copy : IsCopy c.args.job.now.kind c.in-Some-2.value =
    copied_in c.value_laws.ensures.converted c.args.layout.now c.args.job.now c.in-Some.field.now c.args.item.now c.in-Some-2.value c.requires.types c.requires.values c.requires.converts c.requires.job
    (place_there c.args.layout.now c.args.job.now.field c.from.result c.in-Some.field.now (omega arith) c.in-Some.ensures.value)
    (sym c.in-Some-2.is ∙ c.in_ok-copied_value.ensures.value)
    in
    IfOk-weaker c.plain_text.result _ _
    (λ text e. subst (λ (x : Option (List ℕ)). IfSome x FitsText) (sym e) (copy_fits (record { short = c.value_laws.ensures.short; scalars = c.value_laws.ensures.scalars }) c.args.job.now.kind c.in-Some-2.value copy))
    c.plain_text.ensures
