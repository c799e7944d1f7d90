use Rattle.std.proofs.Common.{arith, subst, sym, w64}
use Rattle.std.proofs.lemmas.Int.{to_z-of_z}
use Rattle.std.specs.Prelude.{ℤ}
use Rattle.record_input.specs.Given.{key_of}
use Rattle.model.specs.Creates.{create_on}
use Rattle.record_save.specs.Creating.{IsAsker, PlansNew, answered_new}
use Rattle.record_save.specs.inner.Judged.{Accepts, HaveKeys, changes_of}
use Rattle.record_save.proofs.Creates.{CreateLaws, create_taken, decided_in, decided_to, failed_in, failed_to, on_ok}
use Rattle.record_save.proofs.Rows.{are_in, decided_few}
use Rattle.record_save.proofs.creating.decide_create.Goals as goal

pub returns-clause-what : goal.returns-clause-what
returns-clause-what g c told =
    let l = c.args.layout.now in
    let given = c.args.given.now in
    let key = key_of given in
    let body = given.body.now in
    let x = c.in_ok-accepted.accepted in
    let laws : CreateLaws = record { takes = c.create_laws.ensures.takes; rows = c.pivot_laws.ensures.made; fresh = c.number_laws.ensures.fresh; order = c.id_laws.ensures.ordered; printable = c.value_laws.ensures.printable } in
    record {
      own = decided_in l.org (changes_of l x) c.decided.result c.decided.ensures.made (on_ok (HaveKeys (changes_of l x)) _ c.decided.result c.decided.ensures.keys (λ keys. are_in l x c.in_ok-accepted.ensures.form.counts keys));
      decided = λ q a o s at f well finds leaves.
          decided_to l.org (changes_of l x) (answered_new key) q a.tenant (create_on a o key body) PlansNew x.new.id c.decided.result c.decided.ensures.answers c.decided.ensures.made c.decided.ensures.cause
          (on_ok (HaveKeys (changes_of l x)) _ c.decided.result c.decided.ensures.keys (λ keys.
          create_taken laws l.org q a o l key body s.sound at x
          (subst (Accepts l.org a o key body) c.in_ok-accepted.was (c.accept.ensures.accepts told q a o s at (subst (λ (z : ℤ). IsAsker (g.R.Rights.whose c.args.rights.now) c.args.user z a) (sym (to_z-of_z w64 c.args.now c.ranges.now)) f) well finds))
          c.in_ok-accepted.ensures.form.values (omega (arith, s.number)) s.plan leaves keys));
    }

pub returns-clause-few : goal.returns-clause-few
returns-clause-few g c = decided_few c.pivot_laws.ensures.few c.pivot_laws.ensures.gone c.args.layout.now c.in_ok-accepted.accepted c.decided.result c.decided.ensures.made

pub returns-in_err-accepted-clause-what : goal.returns-in_err-accepted-clause-what
returns-in_err-accepted-clause-what g c told =
    let l = c.args.layout.now in
    let given = c.args.given.now in
    let key = key_of given in
    let body = given.body.now in
    let e = c.in_err-accepted.field-0.0 in
    record {
      own = failed_in l.org e c.from_residual.result c.from_residual.ensures.1;
      decided = λ q a o s at f well finds leaves.
          failed_to l.org e (answered_new key) q a.tenant (create_on a o key body) PlansNew c.from_residual.result c.from_residual.ensures.1
          (subst (Accepts l.org a o key body) c.in_err-accepted.was (c.accept.ensures.accepts told q a o s at (subst (λ (z : ℤ). IsAsker (g.R.Rights.whose c.args.rights.now) c.args.user z a) (sym (to_z-of_z w64 c.args.now c.ranges.now)) f) well finds));
    }
