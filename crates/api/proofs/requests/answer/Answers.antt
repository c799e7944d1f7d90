use Rattle.std.proofs.Common.{ap, sym, subst, arith, false, true}
use Rattle.model_requests.specs.Routing.{is_administration}
use Rattle.store_kv.specs.Draft.{removals_of, tables_of}
use Rattle.store_kv.specs.State.{data_table}
use Rattle.model_requests.specs.RequestOf.{request_of, verdict_at}
use Rattle.model.specs.declared.refusal.Refusal.TheVariants.{AdminRequired}
use Rattle.model_requests.specs.declared.route.Route.{Route}
use Rattle.model_requests.specs.declared.route.Route.TheVariants.{Query}
use Rattle.model_requests.specs.declared.routed.Routed.TheVariants.{To}
use Rattle.model.specs.Verdict.{Verdict}
use Rattle.model.specs.Asker.{IsAsking}
use Rattle.model_requests.specs.FurtherShown.{further_shown}
use Rattle.model.specs.Shown.{shown_beside}
use Rattle.api.specs.inner.Answers.{AnswersBy}
use Rattle.api.proofs.Refusing.{refused_so}
use Rattle.api.proofs.Responses.{drafts_of, form_of, read_responds, refused_calls}
use Rattle.api.proofs.Verdicts.{administered_drafts, administered_form, administrator_lacks, barred, edit_asked, edited, state_asked}
use Rattle.api.proofs.requests.answer.Goals as goal

-- ---- no administrator

pub returns-then-is_barred-clause-what : goal.returns-then-is_barred-clause-what
returns-then-is_barred-clause-what g c told =
    let m = tables_of g.K.Keeper.state c.args.draft.now in
    let caller = c.args.caller.now in
    let route = c.args.route.now in
    let body = c.args.body.now in
    read_responds caller.org (IsAsking caller c.args.now) (λ a. verdict_at caller.org a body (To route)) m m c.refuse.result c.unchanged.result c.unchanged.ensures
    (λ p a s asking. subst (λ (v : Verdict). AnswersBy a v c.refuse.result) (sym (administrator_lacks route body caller c.args.now a asking (barred c.is_administration.result (is_administration c.args.route.now) c.args.caller.now.admin c.is_barred.result true c.is_administration.ensures c.is_barred.ensures c.if-is_barred.true))) (refused_so a AdminRequired c.refuse.result c.refuse.ensures.value))

pub returns-then-is_barred-clause-form : goal.returns-then-is_barred-clause-form
returns-then-is_barred-clause-form g c = form_of (To c.args.route.now) c.refuse.result c.unchanged.result c.unchanged.ensures c.refuse.ensures.form

pub returns-then-is_barred-clause-drafts : goal.returns-then-is_barred-clause-drafts
returns-then-is_barred-clause-drafts g c =
    let state = g.K.Keeper.state in
    let laws = c.call_laws.ensures in
    let a = c.args.draft.now in
    drafts_of state laws.makes laws.most 0 (shown_beside (further_shown (To c.args.route.now)) (removals_of state data_table a)) (omega arith) a a c.refuse.result c.unchanged.result c.unchanged.ensures
    (refused_calls state laws.weaker laws.none AdminRequired c.refuse.result a c.refuse.ensures.value)

-- ---- a query

pub returns-in-Query-clause-what : goal.returns-in-Query-clause-what
unfolding request_of
returns-in-Query-clause-what g c told =
    let state = g.K.Keeper.state in
    let caller = c.args.caller.now in
    let body = c.args.body.now in
    read_responds caller.org (IsAsking caller c.args.now) (λ a. verdict_at caller.org a body (To c.args.route.now)) (tables_of state c.args.draft.now) (tables_of state c.answer_query.new.draft) c.answer_query.result c.unchanged-in-Query.result c.unchanged-in-Query.ensures
    (λ p a s asking. subst (λ (r : Route). AnswersBy a (verdict_at caller.org a body (To r)) c.answer_query.result) (sym c.in-Query.is) (c.answer_query.ensures.what told p a s asking))

pub returns-in-Query-clause-form : goal.returns-in-Query-clause-form
returns-in-Query-clause-form g c = form_of (To c.args.route.now) c.answer_query.result c.unchanged-in-Query.result c.unchanged-in-Query.ensures c.answer_query.ensures.form

pub returns-in-Query-clause-drafts : goal.returns-in-Query-clause-drafts
returns-in-Query-clause-drafts g c =
    let state = g.K.Keeper.state in
    let laws = c.call_laws.ensures in
    let a = c.args.draft.now in
    let further = ap (λ (r : Route). further_shown (To r)) c.in-Query.is in
    let own = shown_beside (further_shown (To (Query c.in-Query.pairs))) (removals_of state data_table a) in
    let shown = shown_beside (further_shown (To c.args.route.now)) (removals_of state data_table a) in
    drafts_of state laws.makes laws.most own shown (omega (arith, further)) a c.answer_query.new.draft c.answer_query.result c.unchanged-in-Query.result c.unchanged-in-Query.ensures c.answer_query.ensures.calls

-- ---- how far the change of a type is

pub returns-in-GetRetype-clause-what : goal.returns-in-GetRetype-clause-what
returns-in-GetRetype-clause-what g c told =
    let state = g.K.Keeper.state in
    let caller = c.args.caller.now in
    let body = c.args.body.now in
    read_responds caller.org (IsAsking caller c.args.now) (λ a. verdict_at caller.org a body (To c.args.route.now)) (tables_of state c.args.draft.now) (tables_of state c.answer_state.new.draft) c.answer_state.result c.unchanged-in-GetRetype.result c.unchanged-in-GetRetype.ensures
    (λ p a s asking. subst (λ (v : Verdict). AnswersBy a v c.answer_state.result)
    (sym (state_asked c.args.route.now body caller c.args.now a asking c.in-GetRetype.is (barred c.is_administration.result (is_administration c.args.route.now) c.args.caller.now.admin c.is_barred.result false c.is_administration.ensures c.is_barred.ensures c.if-is_barred.false))) (c.answer_state.ensures.what told p a s))

pub returns-in-GetRetype-clause-form : goal.returns-in-GetRetype-clause-form
returns-in-GetRetype-clause-form g c = form_of (To c.args.route.now) c.answer_state.result c.unchanged-in-GetRetype.result c.unchanged-in-GetRetype.ensures c.answer_state.ensures.form

pub returns-in-GetRetype-clause-drafts : goal.returns-in-GetRetype-clause-drafts
returns-in-GetRetype-clause-drafts g c =
    let state = g.K.Keeper.state in
    let laws = c.call_laws.ensures in
    let a = c.args.draft.now in
    drafts_of state laws.makes laws.most 0 (shown_beside (further_shown (To c.args.route.now)) (removals_of state data_table a)) (omega arith) a c.answer_state.new.draft c.answer_state.result c.unchanged-in-GetRetype.result c.unchanged-in-GetRetype.ensures c.answer_state.ensures.calls

-- ---- an edit

pub answer_edit-requires-clause-asks : goal.answer_edit-requires-clause-asks
answer_edit-requires-clause-asks g c = edit_asked c.args.route.now (record { no_query = λ pairs. c.in_default.not-Query pairs; no_state = c.in_default.not-GetRetype })

pub returns-in_default-clause-what : goal.returns-in_default-clause-what
returns-in_default-clause-what g c told =
    let state = g.K.Keeper.state in
    let caller = c.args.caller.now in
    edited c.args.route.now c.args.body.now caller c.args.now (barred c.is_administration.result (is_administration c.args.route.now) c.args.caller.now.admin c.is_barred.result false c.is_administration.ensures c.is_barred.ensures c.if-is_barred.false)
    caller.org (tables_of state c.args.draft.now) (tables_of state c.answer_edit.new.draft) c.answer_edit.result (c.answer_edit.ensures.what told)

pub returns-in_default-clause-form : goal.returns-in_default-clause-form
returns-in_default-clause-form g c = administered_form c.args.route.now c.answer_edit.result (record { no_query = λ pairs. c.in_default.not-Query pairs; no_state = c.in_default.not-GetRetype }) c.answer_edit.ensures.form

pub returns-in_default-clause-drafts : goal.returns-in_default-clause-drafts
returns-in_default-clause-drafts g c =
    let state = g.K.Keeper.state in
    let a = c.args.draft.now in
    administered_drafts state c.call_laws.ensures.most (shown_beside (further_shown (To c.args.route.now)) (removals_of state data_table a)) c.answer_edit.result a c.answer_edit.new.draft (omega arith) c.answer_edit.ensures.drafts
