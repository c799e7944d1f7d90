use Rattle.std.proofs.Common.{arith, false, subst, sym, true}
use Rattle.store_kv.specs.Draft.{tables_of}
use Rattle.model.specs.Asker.{IsAsking}
use Rattle.model.specs.Verdict.{Verdict}
use Rattle.model.specs.declared.refusal.Refusal.TheVariants.{AdminRequired}
use Rattle.model_reads.specs.Reads.{for_administrators, read_shown}
use Rattle.model_requests.specs.RequestOf.{verdict_at}
use Rattle.model_requests.specs.declared.routed.Routed.TheVariants.{Reads}
use Rattle.api.specs.inner.Answers.{AnswersBy}
use Rattle.api.proofs.Refusing.{refused_so}
use Rattle.api.proofs.Responses.{drafts_of, form_of, read_responds, refused_calls}
use Rattle.api.proofs.Verdicts.{barred, read_allowed, read_refused}
use Rattle.api.proofs.requests.answer_reading.Goals as goal

-- ---- no administrator

pub returns-then-is_barred-clause-what : goal.returns-then-is_barred-clause-what
returns-then-is_barred-clause-what g c told =
    let m = tables_of g.K.Keeper.state c.args.draft.now in
    let caller = c.args.caller.now in
    let read = c.args.read.now in
    let body = c.args.body.now in
    read_responds caller.org (IsAsking caller c.args.now) (λ a. verdict_at caller.org a body (Reads read)) m m c.refuse.result c.unchanged.result c.unchanged.ensures
    (λ p a s asking. subst (λ (v : Verdict). AnswersBy a v c.refuse.result)
    (sym (read_refused read body caller c.args.now a asking (barred c.for_administrators.result (for_administrators read) caller.admin c.is_barred.result true c.for_administrators.ensures c.is_barred.ensures c.if-is_barred.true)))
    (refused_so a AdminRequired c.refuse.result c.refuse.ensures.value))

pub returns-then-is_barred-clause-form : goal.returns-then-is_barred-clause-form
returns-then-is_barred-clause-form g c = form_of (Reads c.args.read.now) c.refuse.result c.unchanged.result c.unchanged.ensures c.refuse.ensures.form

pub returns-then-is_barred-clause-drafts : goal.returns-then-is_barred-clause-drafts
returns-then-is_barred-clause-drafts g c =
    let state = g.K.Keeper.state in
    let laws = c.call_laws.ensures in
    let a = c.args.draft.now in
    drafts_of state laws.makes laws.most 0 (read_shown c.args.read.now) (omega arith) a a c.refuse.result c.unchanged.result c.unchanged.ensures
    (refused_calls state laws.weaker laws.none AdminRequired c.refuse.result a c.refuse.ensures.value)

-- ---- the read

pub returns-clause-what : goal.returns-clause-what
returns-clause-what g c told =
    let state = g.K.Keeper.state in
    let caller = c.args.caller.now in
    let read = c.args.read.now in
    let body = c.args.body.now in
    read_responds caller.org (IsAsking caller c.args.now) (λ a. verdict_at caller.org a body (Reads read)) (tables_of state c.args.draft.now) (tables_of state c.answer_read.new.draft) c.answer_read.result c.unchanged-2.result c.unchanged-2.ensures
    (λ p a s asking. subst (λ (v : Verdict). AnswersBy a v c.answer_read.result)
    (sym (read_allowed read body caller c.args.now a asking (barred c.for_administrators.result (for_administrators read) caller.admin c.is_barred.result false c.for_administrators.ensures c.is_barred.ensures c.if-is_barred.false)))
    (c.answer_read.ensures.what told p a c.args.now s asking))

pub returns-clause-form : goal.returns-clause-form
returns-clause-form g c = form_of (Reads c.args.read.now) c.answer_read.result c.unchanged-2.result c.unchanged-2.ensures c.answer_read.ensures.form

pub returns-clause-drafts : goal.returns-clause-drafts
returns-clause-drafts g c =
    let state = g.K.Keeper.state in
    let laws = c.call_laws.ensures in
    let shown = read_shown c.args.read.now in
    drafts_of state laws.makes laws.most shown shown (omega arith) c.args.draft.now c.answer_read.new.draft c.answer_read.result c.unchanged-2.result c.unchanged-2.ensures c.answer_read.ensures.calls
