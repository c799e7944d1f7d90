use Rattle.std.proofs.Common.{◌≡◌, ◌∙◌, None, Some, refl, rules, subst, sym, w64, ℕ}
use Rattle.std.proofs.lemmas.Int.{to_z-of_z}
use Rattle.std.specs.Prelude.{FitsSigned, List, Option, Result, ℤ}
use Rattle.store_edit.specs.declared.decided.Decided.{Decided}
use Rattle.record_input.specs.Given.{FindNone, Finds, FindsAll, key_of}
use Rattle.record_input.specs.declared.found.Found.{Found}
use Rattle.record_input.specs.declared.key.AllGiven.{AllGiven}
use Rattle.model.specs.Keys.{Key}
use Rattle.model.specs.Tenant.{Object, Tenant}
use Rattle.model.specs.declared.record_bodies.Assignment.{Assignment}
use Rattle.record_target.specs.declared.kept.KeptRecord.{KeptRecord}
use Rattle.access_traits.specs.Rights.{Whose}
use Rattle.store_abstraction.specs.declared.fail.EditFail.{EditFail}
use Rattle.store_abstraction.specs.declared.layout.Layout.{Layout}
use Rattle.store_edit.proofs.Judged.{passed_on}
use Rattle.store_edit.specs.Edits.{ChangesIn}
use Rattle.store_kv.specs.Draft.{tables_of}
use Rattle.store_kv.specs.Tables.{Tables}
use Rattle.model.specs.Paths.{Asked}
use Rattle.model.specs.Sound.{IsSound}
use Rattle.model.specs.Updates.{update, update_on}
use Rattle.model.specs.Verdict.{Verdict, done}
use Rattle.record_target.proofs.Naming.{named_verdict}
use Rattle.record_target.specs.Named.{FindsPermitted}
use Rattle.model_invariant.specs.Fit.{ReadsWell}
use Rattle.store_abstraction.specs.Calls.{ended_edit}
use Rattle.store_abstraction.specs.Local.{StandsIn}
use Rattle.base_value.specs.declared.sharing.Level.TheVariants.{Edit}
use Rattle.record_save.specs.Creating.{IsGiving}
use Rattle.record_save.specs.Updating.{DecidesChanged, PlansSame}
use Rattle.record_save.proofs.Accepting.{object_at}
use Rattle.record_save.proofs.Creates.{decides_same}
use Rattle.record_save.proofs.GivenRules.{is_plain}
use Rattle.record_save.proofs.updating.UpdateEdit.judge.Goals as goal

-- where nothing finds a record, what is told is as it is to be
known_all : {l : Layout} {whose : Whose} {now : ℤ} {x : AllGiven} {kept : KeptRecord} {m : Tables} {result : Result (Decided (Unit {0})) EditFail}
    → DecidesChanged l whose now x kept m result
    → ((t : Tenant) (o : Object) (key : Option Key) (found : List Found) (body : List Assignment) → FindNone body → Finds t o key found body)
    → FindNone x.body.now → (t : Tenant) (o : Object) → FindsAll t o x
known_all {x = x} decides law none t o = law t o (key_of x) x.found.now x.body.now none

pub decide_update-requires-clause-plain : goal.decide_update-requires-clause-plain
decide_update-requires-clause-plain g c = is_plain _ refl

pub returns-clause-what : goal.returns-clause-what
returns-clause-what g c told =
    let state = g.K.Keeper.state in
    let org = c.args.org in
    let e = c.args.self.now in
    let name = e.object.now in
    let key = e.key.now in
    let given = e.given.now in
    let x = c.in_ok-named.named in
    let l = x.layout in
    let b = c.find_permitted.new.draft in
    let small : FitsSigned w64 e.now = search rules in
    let own : l.org ≡ org = c.in_ok-named.ensures.form.ready.own in
    let tells = c.draft_laws.ensures.both 5 168 c.args.draft.now b c.decide_update.new.draft c.find_permitted.ensures.calls.reads c.decide_update.ensures.calls.reads told in
    let decides = c.decide_update.ensures.what tells.1 in
    record {
      own = subst (λ (n : ℕ). ChangesIn n c.decide_update.result) own decides.own;
      decided = λ q a s f.
          let (is, permitted) = subst (FindsPermitted org q a name key Edit) c.in_ok-named.was (c.find_permitted.ensures.finds tells.0 q a s f.asker.rights) in
          let o = is.numbered in
          let at = object_at c.object_laws.ensures.named org q a.tenant name l own (o, is.there, is.layout) in
          let same = named_verdict org q a name key x is Edit permitted (λ o. update_on a o None given) in
          let stands = subst (λ (n : ℕ). StandsIn n q (tables_of state b) (Some a.tenant)) (sym own) (subst (λ (m : Tables). StandsIn org q m (Some a.tenant)) (sym tells.2) s) in
          decides_same (λ (u : Unit {0}). done) org l.org q a.tenant (update_on a o None given x.kept.item) (update a name key given) PlansSame c.decide_update.result own same
          (decides.decided q a o is.id stands at is.kept f.asker.rights (f.asker.now ∙ sym (to_z-of_z w64 e.now small)) (f.reads o.number o.object at.there)
          (known_all decides c.given_laws.ensures.finds (c.given_laws.ensures.json given e.in_json) a.tenant o.object)
          (subst (λ (v : Verdict). IsSound v.tenant) same (c.records_sound.ensures.update a name key given f.caller f.reads s.sound)));
    }

pub returns-in_err-named-clause-what : goal.returns-in_err-named-clause-what
returns-in_err-named-clause-what g c told =
    let org = c.args.org in
    let e = c.args.self.now in
    let name = e.object.now in
    let key = e.key.now in
    let given = e.given.now in
    passed_on {answered = λ (u : Unit {0}). done} org (λ (a : Asked). update a name key given) PlansSame (IsGiving (g.R.Rights.whose e.rights.now) e.user e.now (λ b o. ReadsWell b o given)) (tables_of g.K.Keeper.state c.args.draft.now) c.in_err-named.field-0.0 c.from_residual.result c.from_residual.ensures.1
    (λ q a s f. subst (FindsPermitted org q a name key Edit) c.in_err-named.was (c.find_permitted.ensures.finds told q a s f.asker.rights) (λ o. update_on a o None given))

pub returns-clause-calls : goal.returns-clause-calls
returns-clause-calls g c =
    c.call_laws.ensures.then 5 168 (ended_edit c.decide_update.result) c.args.draft.now c.find_permitted.new.draft c.decide_update.new.draft c.in_ok-named.ensures.calls c.decide_update.ensures.calls
