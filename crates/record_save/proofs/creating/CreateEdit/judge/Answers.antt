use Rattle.std.proofs.Common.{◌≡◌, List, Some, None, refl, rules, subst, sym, w64, ℕ}
use Rattle.std.proofs.lemmas.Int.{to_z-of_z}
use Rattle.std.specs.Prelude.{FitsSigned, slice_get, ℤ}
use Rattle.store_edit.proofs.Judged.{passed_on}
use Rattle.store_edit.specs.Edits.{ChangesIn}
use Rattle.store_kv.specs.Draft.{tables_of}
use Rattle.store_kv.specs.Tables.{Tables}
use Rattle.model.specs.Creates.{create, create_on}
use Rattle.model.specs.Paths.{Asked}
use Rattle.model.specs.Sound.{IsSound}
use Rattle.model.specs.Tenant.{Object}
use Rattle.model.specs.Verdict.{Verdict, made_new}
use Rattle.record_target.proofs.Objects.{named_so}
use Rattle.store_abstraction.specs.Local.{StandsIn}
use Rattle.record_save.specs.Creating.{IsAsker, IsGiving, PlansNew, ReadsFound}
use Rattle.record_save.proofs.Accepting.{object_at}
use Rattle.record_save.proofs.Creates.{create_named, create_unnamed, decides_same}
use Rattle.record_save.proofs.GivenRules.{is_plain}
use Rattle.record_save.proofs.creating.CreateEdit.judge.Goals as goal

pub decide_create-requires-clause-plain : goal.decide_create-requires-clause-plain
decide_create-requires-clause-plain g c = is_plain _ refl

pub returns-clause-what : goal.returns-clause-what
returns-clause-what g c told =
    let state = g.K.Keeper.state in
    let org = c.args.org in
    let e = c.args.self.now in
    let name = e.object.now in
    let given = e.given.now in
    let l = c.in_ok-layout.layout in
    let b = c.ready_layout.new.draft in
    let small : FitsSigned w64 e.now = search rules in
    let own : l.org ≡ org = c.in_ok-layout.ensures.form.own in
    let tells = c.draft_laws.ensures.both 0 168 c.args.draft.now b c.decide_create.new.draft c.ready_layout.ensures.calls.reads c.decide_create.ensures.calls.reads told in
    let decides = c.decide_create.ensures.what tells.1 in
    record {
      own = subst (λ (n : ℕ). ChangesIn n c.decide_create.result) own decides.own;
      decided = λ q a s f.
          let on = named_so org q a.tenant name c.ready_layout.result l (c.ready_layout.ensures.names tells.0 q a.tenant s) c.in_ok-layout.was in
          let o = on.0 in
          let at = object_at c.object_laws.ensures.named org q a.tenant name l own on in
          let its = f.reads o.number o.object at.there in
          let reads = λ (n : ℕ) (x : Object) (there : slice_get a.tenant.objects n ≡ Some x). (f.reads n x there).reads in
          let same = create_named a name o given on.1 in
          let stands = subst (λ (n : ℕ). StandsIn n q (tables_of state b) (Some a.tenant)) (sym own) (subst (λ (m : Tables). StandsIn org q m (Some a.tenant)) (sym tells.2) s) in
          decides_same (λ (id : List ℕ). made_new id) org l.org q a.tenant (create_on a o None given) (create a name given) PlansNew c.decide_create.result own same
          (decides.decided q a o stands at (subst (λ (z : ℤ). IsAsker (g.R.Rights.whose e.rights.now) e.user z a) (sym (to_z-of_z w64 e.now small)) f.asker) its.reads (its.finds o on.1 refl)
          (subst (λ (v : Verdict). IsSound v.tenant) same (c.records_sound.ensures.create a name given f.caller reads s.sound)));
    }

pub returns-in_err-layout-clause-what : goal.returns-in_err-layout-clause-what
returns-in_err-layout-clause-what g c told =
    let org = c.args.org in
    let e = c.args.self.now in
    let name = e.object.now in
    let given = e.given.now in
    passed_on {answered = λ (id : List ℕ). made_new id} org (λ (a : Asked). create a name given) PlansNew (IsGiving (g.R.Rights.whose e.rights.now) e.user e.now (ReadsFound name e.found.now given)) (tables_of g.K.Keeper.state c.args.draft.now) c.in_err-layout.field-0.0 c.from_residual.result c.from_residual.ensures.1
    (λ q a s f. create_unnamed org q a name given c.ready_layout.result c.in_err-layout.field-0.0 (c.ready_layout.ensures.names told q a.tenant s) c.in_err-layout.was)
