use Rattle.std.proofs.Common.{◌∙◌, refl, subst, sym, w64}
use Rattle.std.proofs.lemmas.Int.{to_z-of_z}
use Rattle.std.specs.Prelude.{◌≡◌, Err, IfOk, Ok, Result}
use Rattle.store_edit.specs.declared.decided.Decided.{Decided}
use Rattle.record_input.specs.Given.{key_of}
use Rattle.model.specs.Updates.{update_on}
use Rattle.store_abstraction.specs.declared.fail.EditFail.{EditFail}
use Rattle.record_save.specs.inner.Judged.{HaveKeys}
use Rattle.record_save.specs.inner.Updated.{Updates, altered_changes}
use Rattle.record_save.specs.Updating.{PlansSame, answered_changed}
use Rattle.record_save.proofs.Creates.{decided_in, decided_to, failed_in, failed_to, on_ok}
use Rattle.record_save.proofs.Rows.{altered_in}
use Rattle.record_save.proofs.Updates.{UpdateLaws, altered_few, update_taken}
use Rattle.record_save.proofs.updating.decide_update.Goals as goal

answers : (result : Result (Decided (Unit {0})) EditFail) → IfOk result (λ x. x.answer ≡ tt)
answers (Ok x) = refl
answers (Err e) = tt

pub returns-clause-what : goal.returns-clause-what
returns-clause-what g c told =
    let l = c.args.layout.now in
    let k = c.args.kept in
    let given = c.args.given.now in
    let key = key_of given in
    let body = given.body.now in
    let x = c.in_ok-altered.altered in
    let laws : UpdateLaws = record { takes = c.update_laws.ensures.takes; rows = c.pivot_laws.ensures.turned; printable = c.value_laws.ensures.printable } in
    record {
      own = decided_in l.org (altered_changes l k x) c.decided_update.result c.decided_update.ensures.made (on_ok (HaveKeys (altered_changes l k x)) _ c.decided_update.result c.decided_update.ensures.keys (λ keys. altered_in l k x keys));
      decided = λ q a o id s at kept who now well finds leaves.
          decided_to l.org (altered_changes l k x) (λ (u : Unit {0}). answered_changed key k.item.id) q a.tenant (update_on a o key body k.item) PlansSame tt c.decided_update.result (answers c.decided_update.result) c.decided_update.ensures.made c.decided_update.ensures.cause
          (on_ok (HaveKeys (altered_changes l k x)) _ c.decided_update.result c.decided_update.ensures.keys (λ keys.
          update_taken laws q a o l key body s.sound at id k kept x
          (subst (Updates l.org a o key body k.item) c.in_ok-altered.was (c.accept_update.ensures.accepts told q a o id s at kept who (now ∙ sym (to_z-of_z w64 c.args.now c.ranges.now)) well finds))
          c.in_ok-altered.ensures.form.values s.plan leaves keys));
    }

pub returns-clause-few : goal.returns-clause-few
returns-clause-few g c = altered_few c.pivot_laws.ensures.turned_few c.pivot_laws.ensures.turned_gone c.args.layout.now c.args.kept c.in_ok-altered.altered c.decided_update.result c.in_ok-altered.ensures.form.few c.decided_update.ensures.made

pub returns-in_err-altered-clause-what : goal.returns-in_err-altered-clause-what
returns-in_err-altered-clause-what g c told =
    let l = c.args.layout.now in
    let k = c.args.kept in
    let given = c.args.given.now in
    let key = key_of given in
    let body = given.body.now in
    let e = c.in_err-altered.field-0.0 in
    record {
      own = failed_in l.org e c.from_residual.result c.from_residual.ensures.1;
      decided = λ q a o id s at kept who now well finds leaves.
          failed_to l.org e (λ (u : Unit {0}). answered_changed key k.item.id) q a.tenant (update_on a o key body k.item) PlansSame c.from_residual.result c.from_residual.ensures.1
          (subst (Updates l.org a o key body k.item) c.in_err-altered.was (c.accept_update.ensures.accepts told q a o id s at kept who (now ∙ sym (to_z-of_z w64 c.args.now c.ranges.now)) well finds));
    }
