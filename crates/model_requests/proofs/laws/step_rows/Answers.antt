use Rattle.std.proofs.Common.{◌≡◌, ℕ, Some, true, refl, ◌∙◌}
use Rattle.std.specs.Prelude.{codes}
use Rattle.std.specs.Str.{is_utf8}
use Rattle.std.specs.Str.Lossy.{utf8_lossy, utf8_valid_len}
use Rattle.base_lemmas.proofs.Texts.{bytes_eq-self as itself}
use Rattle.form_urlencoded.specs.Form.{raw_pairs, split}
use Rattle.percent_encoding.specs.Percent.{percent_decode}
use Rattle.sha2.specs.Sha256.{sha256}
use Rattle.soql.proofs.Computing.{reading_queries}
use Rattle.base_value.specs.Digits.{digits}
use Rattle.base_value.specs.Id.{id_in, made, number62, number_in}
use Rattle.model.specs.declared.caller.Caller.{Caller}
use Rattle.model.specs.declared.refusal.Refusal.TheVariants.{InvalidType}
use Rattle.model_requests.specs.Answered.{answered}
use Rattle.model.specs.Callers.{Named, cut}
use Rattle.model.specs.Jobs.{job_step}
use Rattle.model.specs.Objects.{object_named}
use Rattle.model.specs.Organisations.{administrator, fresh}
use Rattle.model_requests.specs.RequestOf.{request_of}
use Rattle.model_requests.specs.Routing.{lines, routed_as}
use Rattle.model.specs.Step.{Answering, Message, caller_by, in_org, query_text, refusal_reply, step_by}
use Rattle.model.specs.World.{World}
use Rattle.model.proofs.Called.{found}
use Rattle.model_requests.specs.Step.{step}
use Rattle.model_requests.specs.Worked.{acme, asks_by}
use Rattle.model_requests.proofs.laws.step_rows.Goals as goal

who : Caller
who = record { org = 1; user = codes "005000000000000"; admin = true }

named : Named
named = record { org = 1; user = codes "005000000000000"; secret = codes "abc!d" }

pub returns-clause-no_key : goal.returns-clause-no_key
unfolding step
returns-clause-no_key c = refl

-- what `answering_laws` says of a caller's message
abbrev AnswersCalled : Type 0
AnswersCalled =
    (answers : Answering) (w : World) (m : Message) (now : ℕ) (c : Caller) → caller_by w m ≡ Some c
    → step_by answers w m now ≡ in_org w c.org (answers c m now)

no_deals : AnswersCalled → step acme (asks_by (codes "q=SELECT+Id,Name+FROM+Deal__c")) 0 ≡ (refusal_reply (InvalidType (codes "Deal__c")), acme)
unfolding who named step request_of job_step reading_queries object_named cut id_in number_in number62 made digits routed_as lines split query_text raw_pairs utf8_lossy percent_decode utf8_valid_len is_utf8
no_deals called =
    let m = asks_by (codes "q=SELECT+Id,Name+FROM+Deal__c") in
    called answered acme m 0 who (found acme (codes "00D000000000001!005000000000000AAA!abc!d") named (fresh (codes "Acme") (sha256 (codes "abc!d"))) (administrator (codes "Acme") (sha256 (codes "abc!d"))) refl refl refl (itself (sha256 (codes "abc!d"))))
    ∙ refl

pub returns-clause-no_object : goal.returns-clause-no_object
returns-clause-no_object c = no_deals c.answering_laws.ensures.called

pub returns-clause-no_query : goal.returns-clause-no_query
unfolding who named step request_of job_step reading_queries object_named cut id_in number_in number62 made digits routed_as lines split query_text raw_pairs utf8_lossy percent_decode utf8_valid_len is_utf8
returns-clause-no_query c =
    let m = asks_by (codes "q=SELECT+Id,Name+FROM+Limit") in
    c.answering_laws.ensures.called answered acme m 0 who (found acme (codes "00D000000000001!005000000000000AAA!abc!d") named (fresh (codes "Acme") (sha256 (codes "abc!d"))) (administrator (codes "Acme") (sha256 (codes "abc!d"))) refl refl refl (itself (sha256 (codes "abc!d"))))
    ∙ refl

pub returns-clause-with_path : goal.returns-clause-with_path
unfolding who named step request_of job_step reading_queries object_named cut id_in number_in number62 made digits routed_as lines split query_text raw_pairs utf8_lossy percent_decode utf8_valid_len is_utf8
returns-clause-with_path c =
    let m = asks_by (codes "q=SELECT+Id,Up__r.Name+FROM+Deal__c") in
    c.answering_laws.ensures.called answered acme m 0 who (found acme (codes "00D000000000001!005000000000000AAA!abc!d") named (fresh (codes "Acme") (sha256 (codes "abc!d"))) (administrator (codes "Acme") (sha256 (codes "abc!d"))) refl refl refl (itself (sha256 (codes "abc!d"))))
    ∙ refl
