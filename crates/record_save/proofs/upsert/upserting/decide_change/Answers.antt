use Rattle.std.proofs.Common.{◌≡◌, List, ℕ, refl, subst, sym, w64}
use Rattle.std.proofs.lemmas.Int.{to_z-of_z}
use Rattle.std.specs.Prelude.{Ok, Err, Result, ℤ}
use Rattle.store_edit.specs.declared.decided.Decided.{Decided}
use Rattle.store_kv.specs.Draft.{tables_of}
use Rattle.store_kv.specs.Tables.{Tables}
use Rattle.record_save.specs.Updating.{DecidesChanged}
use Rattle.store_abstraction.specs.Calls.{Calls, Ending, ended_edit}
use Rattle.store_abstraction.specs.declared.fail.EditFail.{EditFail}
use Rattle.record_save.proofs.Deciding.{changed_ends}
use Rattle.record_save.specs.declared.upsert.upsert.Upserted.{Upserted}
use Rattle.record_save.specs.upsert.inner.Deciding.{Allows, changed}
use Rattle.record_save.proofs.upsert.upserting.decide_change.Goals as goal

pub returns-in-Ok-clause-what : goal.returns-in-Ok-clause-what
returns-in-Ok-clause-what g c told =
    let state = g.K.Keeper.state in
    let whose = g.R.Rights.whose c.args.rights.now in
    let l = c.args.layout.now in
    let k = c.args.kept in
    let given = c.args.given.now in
    let a = c.args.draft.now in
    let b = c.allowed.new.draft in
    let r = c.decide_update-decided.result in
    let tells = c.draft_laws.ensures.both 4 168 a b c.decide_update-decided.new.draft c.allowed.ensures.calls.reads c.decide_update-decided.ensures.calls.reads told in
    let now = c.args.now in
    let then = subst (λ (z : ℤ). DecidesChanged l whose z given k (tables_of state b) r) (to_z-of_z w64 now c.ranges.now) (c.decide_update-decided.ensures.what tells.1) in (
      Ok c.in-Ok.field-0,
      subst (Allows l whose k (tables_of state a)) c.in-Ok.is (c.allowed.ensures.allows tells.0),
      (r, subst (λ (m : Tables). DecidesChanged l whose now given k m r) tells.2 then, subst (λ (i : List ℕ). c.changed.result ≡ changed i r) c.id_of-id.ensures c.changed.ensures),
    )

pub returns-in-Ok-clause-calls : goal.returns-in-Ok-clause-calls
returns-in-Ok-clause-calls g c =
    let state = g.K.Keeper.state in
    let a = c.args.draft.now in
    let b = c.allowed.new.draft in
    let d = c.decide_update-decided.new.draft in
    let r = c.decide_update-decided.result in
    subst (λ (x : Result (Decided Upserted) EditFail). Calls state 172 (ended_edit x) a d) (sym c.changed.ensures)
    (subst (λ (e : Ending). Calls state 172 e a d) (sym (changed_ends c.id_of-id.result r))
    (c.call_laws.ensures.then 4 168 (ended_edit r) a b d c.in-Ok.ensures.calls c.decide_update-decided.ensures.calls))

pub returns-in-Err-clause-what : goal.returns-in-Err-clause-what
returns-in-Err-clause-what g c told =
    let whose = g.R.Rights.whose c.args.rights.now in
    (Err c.in-Err.fail, subst (Allows c.args.layout.now whose c.args.kept (tables_of g.K.Keeper.state c.args.draft.now)) c.in-Err.is (c.allowed.ensures.allows told), refl)
