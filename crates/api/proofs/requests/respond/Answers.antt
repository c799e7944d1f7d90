use Rattle.std.proofs.Common.{◌∙◌, sym, subst, arith}
use Rattle.std.specs.Prelude.{IfOk}
use Rattle.store_kv.specs.Draft.{removals_of, tables_of}
use Rattle.store_kv.specs.State.{data_table}
use Rattle.model_requests.specs.RequestOf.{verdict_at}
use Rattle.model.specs.declared.refusal.Refusal.TheVariants as refusal
use Rattle.model_requests.specs.declared.routed.Routed.{Routed}
use Rattle.store_abstraction.specs.Operations.{Drafts, Responds}
use Rattle.std.specs.Str.{chars}
use Rattle.model_requests.specs.Routing.{routed}
use Rattle.model.specs.Asker.{IsAsking}
use Rattle.model.specs.Bounds.{request_changes, request_gone}
use Rattle.model_requests.specs.FurtherShown.{routed_shown}
use Rattle.api.specs.Forms.{IsRequestReply}
use Rattle.api.proofs.Refusing.{refused_so}
use Rattle.api.proofs.Responses.{drafts_of, form_of, read_responds, refused_calls}
use Rattle.api.proofs.requests.respond.Goals as goal

-- ---- a request of a route

pub returns-in-Ok-To-clause-what : goal.returns-in-Ok-To-clause-what
returns-in-Ok-To-clause-what g c told =
    let state = g.K.Keeper.state in
    let caller = c.args.caller.now in
    subst (λ (r : Routed). Responds caller.org (IsAsking caller c.args.now) (λ a. verdict_at caller.org a c.args.body.now r) (tables_of state c.args.draft.now) (tables_of state c.answer.new.draft) c.answer.result)
    (sym c.in-Ok-To.field-0-is ∙ c.in-Ok-To.ensures) (c.answer.ensures.what told)

pub returns-in-Ok-To-clause-form : goal.returns-in-Ok-To-clause-form
returns-in-Ok-To-clause-form g c = subst (λ (r : Routed). IfOk c.answer.result (IsRequestReply r)) (sym c.in-Ok-To.field-0-is ∙ c.in-Ok-To.ensures) c.answer.ensures.form

pub returns-in-Ok-To-clause-drafts : goal.returns-in-Ok-To-clause-drafts
returns-in-Ok-To-clause-drafts g c =
    let state = g.K.Keeper.state in
    let a = c.args.draft.now in
    subst (λ (r : Routed). Drafts state request_changes request_gone (routed_shown r (removals_of state data_table a)) c.answer.result a c.answer.new.draft)
    (sym c.in-Ok-To.field-0-is ∙ c.in-Ok-To.ensures) c.answer.ensures.drafts

-- ---- a read

pub returns-in-Ok-Reads-clause-what : goal.returns-in-Ok-Reads-clause-what
returns-in-Ok-Reads-clause-what g c told =
    let state = g.K.Keeper.state in
    let caller = c.args.caller.now in
    subst (λ (r : Routed). Responds caller.org (IsAsking caller c.args.now) (λ a. verdict_at caller.org a c.args.body.now r) (tables_of state c.args.draft.now) (tables_of state c.answer_reading.new.draft) c.answer_reading.result)
    (sym c.in-Ok-Reads.field-0-is ∙ c.in-Ok-Reads.ensures) (c.answer_reading.ensures.what told)

pub returns-in-Ok-Reads-clause-form : goal.returns-in-Ok-Reads-clause-form
returns-in-Ok-Reads-clause-form g c = subst (λ (r : Routed). IfOk c.answer_reading.result (IsRequestReply r)) (sym c.in-Ok-Reads.field-0-is ∙ c.in-Ok-Reads.ensures) c.answer_reading.ensures.form

pub returns-in-Ok-Reads-clause-drafts : goal.returns-in-Ok-Reads-clause-drafts
returns-in-Ok-Reads-clause-drafts g c =
    let state = g.K.Keeper.state in
    let a = c.args.draft.now in
    subst (λ (r : Routed). Drafts state request_changes request_gone (routed_shown r (removals_of state data_table a)) c.answer_reading.result a c.answer_reading.new.draft)
    (sym c.in-Ok-Reads.field-0-is ∙ c.in-Ok-Reads.ensures) c.answer_reading.ensures.drafts

-- ---- no such path

pub returns-in-Ok-NotFound-clause-what : goal.returns-in-Ok-NotFound-clause-what
returns-in-Ok-NotFound-clause-what g c told =
    let m = tables_of g.K.Keeper.state c.args.draft.now in
    let caller = c.args.caller.now in
    subst (λ (r : Routed). Responds caller.org (IsAsking caller c.args.now) (λ a. verdict_at caller.org a c.args.body.now r) m m c.unchanged.result)
    (sym c.in-Ok-NotFound.field-0-is ∙ c.in-Ok-NotFound.ensures)
    (read_responds caller.org (IsAsking caller c.args.now) _ m m c.refuse.result c.unchanged.result c.unchanged.ensures
    (λ p a s asking. refused_so a refusal.NotFound c.refuse.result c.refuse.ensures.value))

pub returns-in-Ok-NotFound-clause-form : goal.returns-in-Ok-NotFound-clause-form
returns-in-Ok-NotFound-clause-form g c = form_of _ c.refuse.result c.unchanged.result c.unchanged.ensures c.refuse.ensures.form

pub returns-in-Ok-NotFound-clause-drafts : goal.returns-in-Ok-NotFound-clause-drafts
returns-in-Ok-NotFound-clause-drafts g c =
    let state = g.K.Keeper.state in
    let laws = c.call_laws.ensures in
    let a = c.args.draft.now in
    drafts_of state laws.makes laws.most 0 (routed_shown (routed c.args.method.now (chars c.args.target.now)) (removals_of state data_table a)) (omega arith) a a c.refuse.result c.unchanged.result c.unchanged.ensures
    (refused_calls state laws.weaker laws.none refusal.NotFound c.refuse.result a c.refuse.ensures.value)

-- ---- another method

pub returns-in-Ok-NotAllowed-clause-what : goal.returns-in-Ok-NotAllowed-clause-what
returns-in-Ok-NotAllowed-clause-what g c told =
    let m = tables_of g.K.Keeper.state c.args.draft.now in
    let caller = c.args.caller.now in
    subst (λ (r : Routed). Responds caller.org (IsAsking caller c.args.now) (λ a. verdict_at caller.org a c.args.body.now r) m m c.unchanged-in-Ok-NotAllowed.result)
    (sym c.in-Ok-NotAllowed.field-0-is ∙ c.in-Ok-NotAllowed.ensures)
    (read_responds caller.org (IsAsking caller c.args.now) _ m m c.refuse-in-Ok-NotAllowed.result c.unchanged-in-Ok-NotAllowed.result c.unchanged-in-Ok-NotAllowed.ensures
    (λ p a s asking. refused_so a refusal.MethodNotAllowed c.refuse-in-Ok-NotAllowed.result c.refuse-in-Ok-NotAllowed.ensures.value))

pub returns-in-Ok-NotAllowed-clause-form : goal.returns-in-Ok-NotAllowed-clause-form
returns-in-Ok-NotAllowed-clause-form g c = form_of _ c.refuse-in-Ok-NotAllowed.result c.unchanged-in-Ok-NotAllowed.result c.unchanged-in-Ok-NotAllowed.ensures c.refuse-in-Ok-NotAllowed.ensures.form

pub returns-in-Ok-NotAllowed-clause-drafts : goal.returns-in-Ok-NotAllowed-clause-drafts
returns-in-Ok-NotAllowed-clause-drafts g c =
    let state = g.K.Keeper.state in
    let laws = c.call_laws.ensures in
    let a = c.args.draft.now in
    drafts_of state laws.makes laws.most 0 (routed_shown (routed c.args.method.now (chars c.args.target.now)) (removals_of state data_table a)) (omega arith) a a c.refuse-in-Ok-NotAllowed.result c.unchanged-in-Ok-NotAllowed.result c.unchanged-in-Ok-NotAllowed.ensures
    (refused_calls state laws.weaker laws.none refusal.MethodNotAllowed c.refuse-in-Ok-NotAllowed.result a c.refuse-in-Ok-NotAllowed.ensures.value)
