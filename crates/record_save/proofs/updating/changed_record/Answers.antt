use Rattle.std.proofs.Common.{◌≡◌, ◌∙◌, Some, None, subst, sym, w64}
use Rattle.std.proofs.lemmas.Int.{to_z-of_z}
use Rattle.record_input.specs.Given.{key_of}
use Rattle.model.specs.declared.record.Record.{Record}
use Rattle.model.specs.Updates.{owner_denied}
use Rattle.schema_rules.specs.Objects.{object_of_layout}
use Rattle.record_save.specs.inner.Giving.{Gives}
use Rattle.record_save.proofs.GivenRules.{changes_so, owner_refused, stays_valid, unchanged}
use Rattle.record_save.proofs.LevelRules.{owner_same}
use Rattle.record_save.proofs.updating.changed_record.Goals as goal

pub returns-in_err-new-clause-changes : goal.returns-in_err-new-clause-changes
returns-in_err-new-clause-changes g c told q a s who there now well finds =
    let o = object_of_layout c.args.layout.now in
    let given = c.args.given.now in
    let key = key_of given in
    let gives = subst (λ (r : Record). Gives a o key given.body.now r c.given_record.result) c.in_ok-copy.ensures (c.given_record.ensures.gives a (now ∙ sym (to_z-of_z w64 c.args.now c.ranges.now)) finds) in
    unchanged a o key given.body.now c.args.old.now c.given_record.result c.in_err-new.field-0.0 c.from_residual-in_err-new.result gives c.in_err-new.was c.from_residual-in_err-new.ensures.1

pub returns-in-None-clause-changes : goal.returns-in-None-clause-changes
returns-in-None-clause-changes g c told q a s who there now well finds =
    let l = c.args.layout.now in
    let o = object_of_layout l in
    let old = c.args.old.now in
    let given = c.args.given.now in
    let key = key_of given in
    let body = given.body.now in
    let made = c.in_ok-new.new in
    let gives = subst (λ (r : Record). Gives a o key body r c.given_record.result) c.in_ok-copy.ensures (c.given_record.ensures.gives a (now ∙ sym (to_z-of_z w64 c.args.now c.ranges.now)) finds) in
    let free : None ≡ owner_denied a old made = sym c.in-None.is ∙ c.in_ok-refused_owner.ensures.finds told q a.tenant a.user s who ∙ owner_same a l old made there in
    changes_so a o key body old c.given_record.result made gives c.in_ok-new.was free c.unless_missing.result
    (c.unless_missing.ensures.lacks (stays_valid a l key body old c.requires.values well c.given_record.result made gives c.in_ok-new.was))

pub returns-in-Some-clause-changes : goal.returns-in-Some-clause-changes
returns-in-Some-clause-changes g c told q a s who there now well finds =
    let l = c.args.layout.now in
    let o = object_of_layout l in
    let old = c.args.old.now in
    let given = c.args.given.now in
    let key = key_of given in
    let body = given.body.now in
    let made = c.in_ok-new.new in
    let gives = subst (λ (r : Record). Gives a o key body r c.given_record.result) c.in_ok-copy.ensures (c.given_record.ensures.gives a (now ∙ sym (to_z-of_z w64 c.args.now c.ranges.now)) finds) in
    let refused : Some c.in-Some.refusal ≡ owner_denied a old made = sym c.in-Some.is ∙ c.in_ok-refused_owner.ensures.finds told q a.tenant a.user s who ∙ owner_same a l old made there in
    owner_refused a o key body old c.given_record.result made gives c.in_ok-new.was c.in-Some.refusal refused
