use Rattle.std.proofs.Common.{◌∙◌, sym, w64}
use Rattle.std.proofs.lemmas.Int.{to_z-of_z}
use Rattle.record_input.specs.Given.{key_of}
use Rattle.schema_rules.specs.Objects.{object_of_layout}
use Rattle.record_save.proofs.GivenRules.{alters_so, stays_valid, ungiven}
use Rattle.record_save.proofs.giving.altered_record.Goals as goal

pub returns-in_err-new-clause-alters : goal.returns-in_err-new-clause-alters
returns-in_err-new-clause-alters c a now well finds =
    let given = c.args.given.now in
    ungiven a (object_of_layout c.args.layout.now) (key_of given) given.body.now c.args.old c.given_record.result c.in_err-new.field-0.0 c.from_residual.result
    (c.given_record.ensures.gives a (now ∙ sym (to_z-of_z w64 c.args.now c.ranges.now)) finds) c.in_err-new.was c.from_residual.ensures.1

pub returns-clause-alters : goal.returns-clause-alters
returns-clause-alters c a now well finds =
    let l = c.args.layout.now in
    let old = c.args.old in
    let given = c.args.given.now in
    let key = key_of given in
    let gives = c.given_record.ensures.gives a (now ∙ sym (to_z-of_z w64 c.args.now c.ranges.now)) finds in
    let made = c.in_ok-new.new in
    alters_so a (object_of_layout l) key given.body.now old c.given_record.result made gives c.in_ok-new.was c.unless_missing.result
    (c.unless_missing.ensures.lacks (stays_valid a l key given.body.now old c.requires.values well c.given_record.result made gives c.in_ok-new.was))
