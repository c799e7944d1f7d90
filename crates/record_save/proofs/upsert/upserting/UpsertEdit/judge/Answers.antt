use Rattle.std.proofs.Common.{List, Option, refl, rules, subst, w64}
use Rattle.std.proofs.lemmas.Int.{to_z-of_z}
use Rattle.std.specs.Prelude.{Err, FitsSigned, ℤ}
use Rattle.store_edit.proofs.Judged.{passed_on}
use Rattle.store_kv.specs.Draft.{tables_of}
use Rattle.model.specs.Paths.{Asked}
use Rattle.model.specs.Upserts.{upsert}
use Rattle.record_save.specs.Creating.{IsGiving}
use Rattle.record_save.proofs.UpsertJudging.{KeyLaws, no_key, upserts}
use Rattle.record_save.specs.upsert.Upserting.{PlansEither, ReadsFoundByKey}
use Rattle.record_save.specs.upsert.inner.Deciding.{DecidesByKey, answered_upsert}
use Rattle.record_save.specs.upsert.Finding.{FindsKey, IsKey}
use Rattle.record_save.proofs.upsert.upserting.UpsertEdit.judge.Goals as goal

pub returns-in_err-key-clause-what : goal.returns-in_err-key-clause-what
returns-in_err-key-clause-what g c told =
    let org = c.args.org in
    let e = c.args.self.now in
    let l = c.in_ok-layout.layout in
    let x = c.in_err-key.field-0.0 in
    let laws : KeyLaws = record { unique = c.given_laws.ensures.unique_named; declared = c.given_laws.ensures.declared_name } in
    let finds = subst (λ (text : Option (List _)). FindsKey l e.key.now text (Err x)) c.as_ref.ensures.value c.in_err-key.ensures.finds in
    passed_on {answered = answered_upsert} org (λ (a : Asked). upsert a e.object.now e.key.now e.text e.given.now) PlansEither (IsGiving (g.R.Rights.whose e.rights.now) e.user e.now (ReadsFoundByKey e.object.now e.key.now e.text e.found.now e.given.now))
    (tables_of g.K.Keeper.state c.args.draft.now) x c.from_residual-in_err-key.result c.from_residual-in_err-key.ensures.1
    (λ q a s f. no_key org q a e.object.now e.key.now e.text e.given.now laws l (c.in_ok-layout.ensures.names told q a.tenant s) (Err x) x finds refl)

pub returns-clause-what : goal.returns-clause-what
returns-clause-what g c told =
    let state = g.K.Keeper.state in
    let org = c.args.org in
    let e = c.args.self.now in
    let l = c.in_ok-layout.layout in
    let k = c.in_ok-key.key in
    let a = c.args.draft.now in
    let b = c.ready_layout.new.draft in
    let laws : KeyLaws = record { unique = c.given_laws.ensures.unique_named; declared = c.given_laws.ensures.declared_name } in
    let small : FitsSigned w64 e.now = search rules in
    let tells = c.draft_laws.ensures.both 0 173 a b c.decide_by_key.new.draft c.ready_layout.ensures.calls.reads c.decide_by_key.ensures.calls.reads told in
    let is = subst (λ (text : Option (List _)). IsKey l e.key.now text k) c.as_ref.ensures.value c.in_ok-key.ensures.finds in
    upserts laws c.records_sound.ensures.upsert c.object_laws.ensures.named (g.R.Rights.whose e.rights.now) org e (tables_of state a) (tables_of state b) l k c.in_ok-layout.ensures.form.own tells.2
    (c.in_ok-layout.ensures.names tells.0) is c.decide_by_key.result
    (subst (λ (z : ℤ). DecidesByKey l (g.R.Rights.whose e.rights.now) e.user z e.given.now e.found.now k (tables_of state b) c.decide_by_key.result) (to_z-of_z w64 e.now small) (c.decide_by_key.ensures.what tells.1))
