use Rattle.std.proofs.Common.{◌≡◌, ℕ, Result, Err, ap, of_z, pos, rules, subst, sym, to_z, w64, ◌∙◌}
use Rattle.std.proofs.lemmas.Int.{to_z-of_z}
use Rattle.std.specs.Prelude.{FitsSigned}
use Rattle.base_grammar.specs.Place.{UnlessMemory}
use Rattle.base_grammar.specs.declared.fail.ParseFail.{ParseFail}
use Rattle.soql.specs.declared.query.Query.{Query}
use Rattle.model_requests.specs.RequestOf.{query_or, verdict_or}
use Rattle.model.specs.declared.refusal.Refusal.TheVariants.{MalformedQuery}
use Rattle.model.specs.Step.{query_text}
use Rattle.soql.specs.grammar.Spelling.{reads_query}
use Rattle.store_kv.specs.Draft.{removals_of}
use Rattle.store_kv.specs.State.{data_table}
use Rattle.store_abstraction.specs.Calls.{Calls, ended}
use Rattle.model.specs.Shown.{further_to, shown_beside}
use Rattle.api.specs.inner.Answers.{AnswersBy}
use Rattle.api.proofs.Refusing.{answers_by, refused_so}
use Rattle.api.proofs.asking.answer_query.Goals as goal

pub returns-in-Ok-clause-what : goal.returns-in-Ok-clause-what
returns-in-Ok-clause-what g c told p a s asking =
    let small : FitsSigned w64 c.moment.result = search rules in
    let now : to_z w64 (of_z w64 c.moment.result) ≡ pos c.args.now = to_z-of_z w64 c.moment.result small ∙ c.moment.ensures in
    subst (λ (q : Result Query ℕ). AnswersBy a (verdict_or a (query_or q)) c.answer_named.result)
    (sym (subst (λ (r : Result Query ParseFail). UnlessMemory r (λ read. reads_query (query_text c.args.pairs.now) ≡ read)) c.in-Ok.is c.query_in.ensures))
    (answers_by a c.in-Ok.query c.answer_named.result (c.answer_named.ensures.what told p a s (record { user = asking.user; admin = asking.admin; now = asking.now ∙ sym now })))

pub returns-in-Err-Malformed-clause-what : goal.returns-in-Err-Malformed-clause-what
returns-in-Err-Malformed-clause-what g c told p a s asking =
    subst (λ (q : Result Query ℕ). AnswersBy a (verdict_or a (query_or q)) c.refuse_malformed.result)
    (sym (subst (λ (r : Result Query ParseFail). UnlessMemory r (λ read. reads_query (query_text c.args.pairs.now) ≡ read)) (c.in-Err-Malformed.is ∙ ap Err c.in-Err-Malformed.field-0-is) c.query_in.ensures))
    (refused_so a (MalformedQuery c.in-Err-Malformed.place) c.refuse_malformed.result c.refuse_malformed.ensures.value)

pub returns-in-Ok-clause-calls : goal.returns-in-Ok-clause-calls
returns-in-Ok-clause-calls g c =
    let state = g.K.Keeper.state in
    let removed = removals_of state data_table c.args.draft.now in
    subst (λ (q : Result Query ℕ). Calls state (shown_beside (further_to q) removed) (ended c.answer_named.result) c.args.draft.now c.answer_named.new.draft)
    (sym (subst (λ (r : Result Query ParseFail). UnlessMemory r (λ read. reads_query (query_text c.args.pairs.now) ≡ read)) c.in-Ok.is c.query_in.ensures)) c.answer_named.ensures.calls
