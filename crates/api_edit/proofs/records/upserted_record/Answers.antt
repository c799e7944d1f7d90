use Rattle.std.proofs.Common.{◌≡◌, ◌∙◌, List, Option, ap, arith, of_z, pos, ℕ, refl, rules, sym, to_z, w64}
use Rattle.std.proofs.lemmas.Int.{to_z-of_z}
use Rattle.std.specs.Prelude.{Err, FitsSigned, Ok}
use Rattle.base_lemmas.proofs.Results.{err_from_parts as returned}
use Rattle.store_kv.specs.Draft.{tables_of}
use Rattle.model.specs.Upserts.{upsert}
use Rattle.model_requests.specs.RequestOf.{request_of}
use Rattle.model_reads.specs.Parts.{value_part}
use Rattle.model_requests.specs.Requests.{upserts}
use Rattle.model.specs.Verdict.{upserted}
use Rattle.model.specs.declared.record_bodies.Assignment.{Assignment}
use Rattle.model_requests.specs.declared.route.Route.TheVariants.{Upsert}
use Rattle.record_save.specs.upsert.Upserting.{ReadsFoundByKey}
use Rattle.api_edit.specs.Administration.{AsksWith}
use Rattle.api_edit.specs.inner.Edits.{as_upserted}
use Rattle.api_edit.proofs.Asked.{answers_none, answers_so, asks_upsert, drafts_seen, edits_asked, edits_none, fit, none_drafts}
use Rattle.api_edit.proofs.Giving.{giving, reads_found_by_key}
use Rattle.api_edit.proofs.records.upserted_record.Goals as goal

-- ---- a body of another form

pub returns-in_err-values-clause-what : goal.returns-in_err-values-clause-what
returns-in_err-values-clause-what g c told =
    let caller = c.args.caller.now in
    let object = c.args.object.now in
    let key = c.args.key.now in
    let value = c.args.value.now in
    let fail = c.in_err-values.field-0.0 in
    edits_none (upserts object key (value_part value)) caller.org (AsksWith (g.R.Rights.whose c.args.rights.now) caller c.args.now) (Upsert object key value) (Upsert object key value) c.args.body.now fail (tables_of g.K.Keeper.state c.args.draft.now) c.from_residual.result refl
    (returned c.from_residual.result fail c.from_residual.ensures) (asks_upsert object key value c.args.body.now (Err fail) (c.in_err-values.ensures.values (upserts object key (value_part value))))

pub returns-in_err-values-clause-form : goal.returns-in_err-values-clause-form
returns-in_err-values-clause-form g c = answers_none (Upsert c.args.object.now c.args.key.now c.args.value.now) c.in_err-values.field-0.0 c.from_residual.result (returned c.from_residual.result c.in_err-values.field-0.0 c.from_residual.ensures)

pub returns-in_err-values-clause-makes : goal.returns-in_err-values-clause-makes
returns-in_err-values-clause-makes g c =
    let laws = c.call_laws.ensures in
    let object = c.args.object.now in
    let key = c.args.key.now in
    let value = c.args.value.now in
    let fail = c.in_err-values.field-0.0 in
    none_drafts g.K.Keeper.state (record { weaker = laws.weaker; none = laws.none; makes = laws.makes; most = laws.most }) (upserts object key (value_part value)) (request_of (Upsert object key value) c.args.body.now) fail c.from_residual.result c.args.draft.now
    (returned c.from_residual.result fail c.from_residual.ensures) (asks_upsert object key value c.args.body.now (Err fail) (c.in_err-values.ensures.values (upserts object key (value_part value))))

-- ---- the edit

pub returns-clause-what : goal.returns-clause-what
returns-clause-what g c told =
    let caller = c.args.caller.now in
    let object = c.args.object.now in
    let key = c.args.key.now in
    let value = c.args.value.now in
    let body = c.args.body.now in
    let given = c.in_ok-values.values in
    let text = c.in_ok-text.text in
    let asked = asks_upsert object key value body (Ok given) (c.in_ok-values.ensures.values (upserts object key (value_part value))) ∙ ap (λ (t : Option (List ℕ)). Ok (upserts object key t given)) (sym c.in_ok-text.ensures) in
    let small : FitsSigned w64 c.moment.result = search rules in
    let at : to_z w64 (of_z w64 c.moment.result) ≡ pos c.args.now = to_z-of_z w64 c.moment.result small ∙ c.moment.ensures in
    edits_asked as_upserted (λ x. upserted x.id x.created) (λ _. refl) caller.org (AsksWith (g.R.Rights.whose c.args.rights.now) caller c.args.now) (Upsert object key value) (Upsert object key value) body (upserts object key text given) _ _ _ (tables_of g.K.Keeper.state c.args.draft.now) (tables_of g.K.Keeper.state c.make_edit.new.draft) c.make_edit.result c.upserted.result
    refl asked c.upserted.ensures
    (λ a. ap (λ (values : List Assignment). upsert a object key text values) c.as_slice.ensures)
    (λ a. c.refusal_laws.ensures.refused a (upserts object key text given))
    (λ a sound asking. giving (g.R.Rights.whose c.args.rights.now) caller c.args.now _ (ReadsFoundByKey object key text _) given c.as_slice.result.now a at c.requires c.as_slice.ensures (reads_found_by_key c.given_laws.ensures.finds object key text given a (c.given_laws.ensures.json given c.in_ok-values.ensures.json) (fit c.requests_fit.ensures.request a (Upsert object key value) body (upserts object key text given) sound asked)) asking)
    (c.make_edit.ensures.what told)

pub returns-clause-form : goal.returns-clause-form
returns-clause-form g c = answers_so as_upserted (Upsert c.args.object.now c.args.key.now c.args.value.now) (Upsert c.args.object.now c.args.key.now c.args.value.now) c.make_edit.result c.upserted.result refl c.upserted.ensures (λ _. tt)

pub returns-clause-makes : goal.returns-clause-makes
returns-clause-makes g c =
    let laws = c.call_laws.ensures in
    drafts_seen g.K.Keeper.state (record { weaker = laws.weaker; none = laws.none; makes = laws.makes; most = laws.most }) as_upserted _ _ _ c.args.draft.now c.make_edit.new.draft c.make_edit.result c.upserted.result c.upserted.ensures
    (omega arith) (omega arith) (omega arith) c.make_edit.ensures.makes
