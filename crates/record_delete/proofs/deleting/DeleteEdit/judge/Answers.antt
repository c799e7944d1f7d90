use Rattle.std.proofs.Common.{Some, arith, rules, subst, sym, w64}
use Rattle.std.proofs.lemmas.Int.{to_z-of_z}
use Rattle.std.specs.Prelude.{FitsSigned, ℤ}
use Rattle.store_edit.proofs.Judged.{passed_on}
use Rattle.store_kv.specs.Draft.{tables_of}
use Rattle.store_kv.specs.Tables.{Tables}
use Rattle.model.specs.Deletes.{delete}
use Rattle.model.specs.Paths.{Asked}
use Rattle.model.specs.Verdict.{done}
use Rattle.store_abstraction.specs.Local.{StandsIn}
use Rattle.record_delete.specs.Deleting.{IsDeleting, PlansKept}
use Rattle.record_delete.specs.inner.Doomed.{Dooms}
use Rattle.record_delete.proofs.Judging.{AddsDeleted, made, made_few, made_own, not_made}
use Rattle.record_delete.proofs.deleting.DeleteEdit.judge.Goals as goal

pub returns-in_err-add_changes-clause-what : goal.returns-in_err-add_changes-clause-what
returns-in_err-add_changes-clause-what g c told =
    let org = c.args.org in
    let e = c.args.self.now in
    let name = e.object.now in
    let key = e.key.now in
    let x = c.in_ok-doomed.doomed in
    let tell = c.draft_laws.ensures.both _ _ c.args.draft.now c.accept_delete.new.draft c.add_changes.new.draft c.accept_delete.ensures.calls.reads c.add_changes.ensures.calls.reads told in
    passed_on {answered = λ (u : Unit {0}). done} org (λ (a : Asked). delete a name key) PlansKept (IsDeleting (g.R.Rights.whose e.rights.now) e.now) (tables_of g.K.Keeper.state c.args.draft.now) _ c.from_residual-in_err-add_changes.result c.from_residual-in_err-add_changes.ensures.1
    (λ q a s f. not_made org _ name key x c.add_changes.result c.new-changes.result.items c.add_changes.new.changes.items q a (tables_of g.K.Keeper.state c.accept_delete.new.draft) (subst (λ (m : Tables). StandsIn org q m (Some a.tenant)) (sym tell.2) s)
    (subst (Dooms org q a name key) c.in_ok-doomed.was (c.accept_delete.ensures.accepts tell.0 q a s f.rights)) (c.add_changes.ensures.adds tell.1) _ c.in_err-add_changes.was)

pub returns-clause-what : goal.returns-clause-what
returns-clause-what g c told =
    let org = c.args.org in
    let e = c.args.self.now in
    let name = e.object.now in
    let key = e.key.now in
    let x = c.in_ok-doomed.doomed in
    let small : FitsSigned w64 e.now = search rules in
    let tell = c.draft_laws.ensures.both _ _ c.args.draft.now c.accept_delete.new.draft c.add_changes.new.draft c.accept_delete.ensures.calls.reads c.add_changes.ensures.calls.reads told in
    let before = tables_of g.K.Keeper.state c.accept_delete.new.draft in
    let old = c.new-changes.result.items in
    let new = c.add_changes.new.changes.items in
    let adds = subst (λ (z : ℤ). AddsDeleted org z name key x c.add_changes.result old new before) (to_z-of_z w64 e.now small) (c.add_changes.ensures.adds tell.1) in
    record {
      own = made_own org _ old new c.new-changes.ensures.items c.in_ok-add_changes.ensures.own.1;
      decided = λ q a s f. made org e.now name key x c.add_changes.result old new q a before (subst (λ (m : Tables). StandsIn org q m (Some a.tenant)) (sym tell.2) s)
          (subst (Dooms org q a name key) c.in_ok-doomed.was (c.accept_delete.ensures.accepts tell.0 q a s f.rights)) adds (g.R.Rights.whose e.rights.now) c.delete_laws.ensures.takes (search rules) f c.in_ok-add_changes.field-0 c.in_ok-add_changes.was c.new-changes.ensures.items;
    }

pub returns-clause-few : goal.returns-clause-few
returns-clause-few g c =
    let few = c.in_ok-doomed.ensures.fits.few in
    made_few c.args.org _ c.new-changes.result.items c.add_changes.new.changes.items c.new-changes.ensures.items (omega (arith, few)) c.in_ok-add_changes.ensures.own
