-- Replies to queries by their verdicts.
use Rattle.std.proofs.Common.{◌≡◌, ◌≢◌, List, ℕ, Option, Some, None, Result, Ok, Err, refl, sym, ap, subst, ◌∙◌}
use Rattle.store_rows.specs.declared.fail.StoreFail.{StoreFail}
use Rattle.store_rows.specs.declared.fail.StoreFail.TheVariants.{Damaged}
use Rattle.soql.specs.declared.query.Query.{Query}
use Rattle.model.specs.declared.refusal.Refusal.{Refusal}
use Rattle.model.specs.declared.refusal.Refusal.TheVariants.{InvalidType}
use Rattle.model.specs.declared.reply.Reply.{Reply}
use Rattle.model.specs.Asking.{ask, query_rules}
use Rattle.model.specs.Cases.{in_case}
use Rattle.model.specs.Objects.{Numbered, object_named}
use Rattle.model.specs.Paths.{Asked}
use Rattle.model.specs.Replies.{reply_of}
use Rattle.model.specs.Rules.{first_refusal}
use Rattle.model.specs.Tenant.{Tenant}
use Rattle.model.specs.Verdict.{Verdict, accept, judged, refuse, rows_of, unless}
use Rattle.query_json.specs.Answers.{AnswersBy, Refuses}
use Rattle.query_run.specs.Forms.{IsAnswer}

-- a refusal
pub refused_so : (a : Asked) (why : Refusal) (result : Result Reply StoreFail) → Refuses why result → AnswersBy a (refuse a.tenant why) result
refused_so a why (Ok r) e = (e, refl)
refused_so a why (Err f) e = λ d. absurd cc

-- a reply by the verdict of a query
pub answer_of : (a : Asked) (q : Query) (result : Result Reply StoreFail) → AnswersBy a (ask a q) result → IsAnswer (reply_of a (ask a q).answer) result
answer_of a q (Ok r) h = h.0
answer_of a q (Err f) h = h

-- without the object
no_object : (a : Asked) (q : Query) → object_named a.tenant q.tail.from ≡ None → ask a q ≡ refuse a.tenant (InvalidType q.tail.from)
no_object a q none = ap (λ (x : Option Numbered). in_case x (refuse a.tenant (InvalidType q.tail.from)) (λ o. judged a.tenant (query_rules a.tenant o.number q) (accept (rows_of q) a.tenant))) none

pub refused_object : (a : Asked) (q : Query) (result : Result Reply StoreFail) → object_named a.tenant q.tail.from ≡ None → Refuses (InvalidType q.tail.from) result
    → IsAnswer (reply_of a (ask a q).answer) result
refused_object a q result none h =
    answer_of a q result (subst (λ (v : Verdict). AnswersBy a v result) (sym (no_object a q none)) (refused_so a (InvalidType q.tail.from) result h))

-- a query leaves the organisation
asked_tenant : (a : Asked) (q : Query) → (ask a q).tenant ≡ a.tenant
asked_tenant a q = by (object_named a.tenant q.tail.from) refl
  where
    by_rules : (t : Tenant) (v : Verdict) (r : Option Refusal) → v.tenant ≡ t → (unless r t v).tenant ≡ t
    by_rules t v None h = h
    by_rules t v (Some why) h = refl

    by : (o : Option Numbered) → object_named a.tenant q.tail.from ≡ o → (ask a q).tenant ≡ a.tenant
    by None e = ap (λ (v : Verdict). v.tenant) (no_object a q e)
    by (Some o) e =
        ap (λ (x : Option Numbered). (in_case x (refuse a.tenant (InvalidType q.tail.from)) (λ o. judged a.tenant (query_rules a.tenant o.number q) (accept (rows_of q) a.tenant))).tenant) e
        ∙ by_rules a.tenant (accept (rows_of q) a.tenant) (first_refusal (query_rules a.tenant o.number q)) refl

pub answers_by : (a : Asked) (q : Query) (result : Result Reply StoreFail) → IsAnswer (reply_of a (ask a q).answer) result → AnswersBy a (ask a q) result
answers_by a q (Ok r) h = (h, asked_tenant a q)
answers_by a q (Err f) h = h
