use Rattle.std.proofs.Common.{◌≡◌, ◌∙◌, None, subst, sym, w64}
use Rattle.std.proofs.lemmas.Int.{to_z-of_z}
use Rattle.std.specs.Prelude.{Err, Ok}
use Rattle.base_lemmas.proofs.Options.{none_from_no_some as nothing_there}
use Rattle.record_input.specs.Given.{GivesValues, key_of}
use Rattle.schema_rules.specs.Objects.{object_of_layout}
use Rattle.record_save.proofs.GivenRules.{value_refused, values_given}
use Rattle.record_save.proofs.giving.given_record.Goals as goal

pub returns-in-Ok-clause-gives : goal.returns-in-Ok-clause-gives
returns-in-Ok-clause-gives c a now finds =
    let l = c.args.layout.now in
    let old = c.args.old in
    let given = c.args.given.now in
    let fields : None ≡ c.in_ok-refusal.field-0 = sym (nothing_there c.in_ok-refusal.field-0 c.in_default.not-Some) in
    let gives : GivesValues l given old (Ok c.in-Ok.values) =
    subst (GivesValues l given old) c.in-Ok.is (c.in_ok-values.ensures c.requires.usable.types) in
    let at = now ∙ sym (to_z-of_z w64 c.args.now c.ranges.now) in
    values_given a (object_of_layout l) (key_of given) given.body.now old (fields ∙ c.in_ok-refusal.ensures c.requires.plain a.tenant finds) (gives a.tenant finds).0 c.with_given.result
    (c.with_given.ensures.same a l given at finds gives)

pub returns-in-Err-clause-gives : goal.returns-in-Err-clause-gives
returns-in-Err-clause-gives c a now finds =
    let l = c.args.layout.now in
    let given = c.args.given.now in
    let old = c.args.old in
    let fields : None ≡ c.in_ok-refusal.field-0 = sym (nothing_there c.in_ok-refusal.field-0 c.in_default.not-Some) in
    let gives : GivesValues l given old (Err c.in-Err.refusal) =
    subst (GivesValues l given old) c.in-Err.is (c.in_ok-values.ensures c.requires.usable.types) in
    value_refused a (object_of_layout l) (key_of given) given.body.now old (fields ∙ c.in_ok-refusal.ensures c.requires.plain a.tenant finds) c.in-Err.refusal (gives a.tenant finds)
