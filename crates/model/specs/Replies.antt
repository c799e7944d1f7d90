-- Replies: the status and the body of what is answered, and of what refuses.
-- Source of the forms: Salesforce, REST API, "sObject Rows by External ID", "Query" and "Status Codes and Error Responses". How far
-- the change of a field's type is, and that a reply has at most 16,777,216 bytes, is this product's own.
use Rattle.std.specs.Prelude.{ℕ, true, nat_lt, if◌then◌else◌, List, [], ◌∷◌, ◌++◌, length, codes, encode_utf8_all, slice_get, Result, Ok, Err}
use Rattle.std.specs.Option.{option_and_then}
use Rattle.base_json.specs.Printing.{printed_text, printed_truth, printed_null}
use Rattle.base_value.specs.Id.{print18}
use Rattle.base_value.specs.declared.job.Outcome.{Outcome}
use Rattle.base_value.specs.declared.job.Outcome.TheVariants as outcome
use Rattle.base_value.specs.declared.job.Phase.{Phase}
use Rattle.base_value.specs.declared.job.Phase.TheVariants as phase
use Rattle.model.specs.declared.refusal.Refusal.{Refusal}
use Rattle.model.specs.declared.refusal.Refusal.TheVariants.{ReplyTooLarge}
use Rattle.model.specs.declared.reply.Reply.{Reply}
use Rattle.model.specs.Cases.{in_case}
use Rattle.model.specs.Limits.{reply_limit}
use Rattle.model.specs.Objects.{object_numbered}
use Rattle.model.specs.Paths.{Asked}
use Rattle.model.specs.RowsJson.{found_json, list_json, member_json, object_json}
use Rattle.model.specs.Step.{refusal_reply}
use Rattle.model.specs.Tenant.{Job, Tenant}
use Rattle.model.specs.Verdict.{Done, done, made_new, rows_of, told, upserted}

-- ---- bodies, as characters

-- an id, in 18 characters
abbrev pub id_json : List ℕ → List ℕ
id_json id = printed_text (print18 id)

-- of what was made: its id, and that all is well
abbrev pub made_members : (id : List ℕ) → List (List ℕ)
made_members id =
    member_json (codes "id") (id_json id)
    ∷ member_json (codes "success") (printed_truth true)
    ∷ member_json (codes "errors") (list_json [])
    ∷ []

abbrev pub phase_name : Phase → List ℕ
phase_name phase.Copy = codes "Copy"
phase_name phase.Clear = codes "Clear"
phase_name phase.Done = codes "Done"

abbrev pub outcome_name : Outcome → List ℕ
outcome_name outcome.Open = codes "Open"
outcome_name outcome.Switched = codes "Switched"
outcome_name outcome.Failed = codes "Failed"
outcome_name outcome.Cancelled = codes "Cancelled"

-- how far the change of a field's type is: the object, the field, the phase, the outcome, and the record that didn't convert
abbrev pub job_json : Tenant → Job → List ℕ
job_json t j =
    let object = object_numbered t j.object in
    let field = option_and_then (λ o. slice_get o.fields j.field) object in
    object_json
    (member_json (codes "object") (printed_text (in_case object [] (λ o. o.name)))
    ∷ member_json (codes "field") (printed_text (in_case field [] (λ f. f.name)))
    ∷ member_json (codes "phase") (printed_text (phase_name j.phase))
    ∷ member_json (codes "outcome") (printed_text (outcome_name j.outcome))
    ∷ member_json (codes "record") (in_case j.failed printed_null id_json)
    ∷ [])

-- ---- replies

-- a reply with this status and this body, in UTF-8
abbrev pub json_reply : (status : ℕ) → (characters : List ℕ) → Reply
json_reply status characters = record { status = status; body = encode_utf8_all characters }

-- REPLY_TOO_LARGE, of rows alone
abbrev pub unless_too_large : Reply → Reply
unless_too_large r = if nat_lt reply_limit (length r.body) then refusal_reply ReplyTooLarge else r

abbrev pub done_reply : Asked → Done → Reply
done_reply a done = json_reply 204 []
done_reply a (rows_of q) = unless_too_large (json_reply 200 (found_json a q))
done_reply a (made_new id) = json_reply 201 (object_json (made_members id))
done_reply a (upserted id created) =
    json_reply (if created then 201 else 200) (object_json (made_members id ++ member_json (codes "created") (printed_truth created) ∷ []))
done_reply a (told body) = json_reply 200 body

-- the reply to what a request came to
abbrev pub reply_of : Asked → Result Done Refusal → Reply
reply_of a (Ok answer) = done_reply a answer
reply_of a (Err refusal) = refusal_reply refusal
