-- An edit between the bytes of its body and its reply.
use Rattle.std.specs.Prelude.{◌≡◌, ◌≢◌, ℕ, [], ◌∷◌, ◌++◌, codes, if◌then◌else◌, Option, Some, None, Result, Ok, Err}
use Rattle.std.specs.declared.alloc.AllocError.{AllocError}
use Rattle.store_edit.specs.Edits.{OthersStay}
use Rattle.base_json.specs.Printing.{printed_truth}
use Rattle.store_kv.specs.Tables.{Tables}
use Rattle.store_rows.specs.declared.fail.StoreFail.{StoreFail}
use Rattle.store_rows.specs.declared.fail.StoreFail.TheVariants.{Damaged, Memory}
use Rattle.model.specs.declared.refusal.Refusal.{Refusal}
use Rattle.model.specs.declared.refusal.Refusal.TheVariants.{BodyForm}
use Rattle.model.specs.declared.reply.Reply.{Reply}
use Rattle.model_requests.specs.declared.route.Route.{Route}
use Rattle.model_requests.specs.declared.route.Route.TheVariants.{AddGroup, AddRole, AddUser, Create, Upsert}
use Rattle.model.specs.Paths.{Asked}
use Rattle.model.specs.Replies.{json_reply, made_members}
use Rattle.model_requests.specs.Requests.{Request}
use Rattle.model.specs.RowsJson.{member_json, object_json}
use Rattle.model.specs.Step.{refusal_reply}
use Rattle.model.specs.Tenant.{Tenant}
use Rattle.model.specs.Verdict.{Done, Verdict, done, made_new, upserted}
use Rattle.access_traits.specs.Rights.{Whose}
use Rattle.store_abstraction.specs.Local.{StandsFor, StandsIn}
use Rattle.store_abstraction.specs.Plan.{OrgPlan}
use Rattle.store_abstraction.specs.declared.fail.EditFail.{EditFail}
use Rattle.store_abstraction.specs.declared.fail.EditFail.TheVariants.{Refused, Store}
use Rattle.store_abstraction.specs.declared.judged.Judged.{Judged}
use Rattle.store_abstraction.specs.declared.judged.Judged.TheVariants.{Changed, Same}
use Rattle.record_save.specs.declared.upsert.upsert.Upserted.{Upserted}
use Rattle.api_edit.specs.declared.answer.Answer.{Answer}
use Rattle.api_edit.specs.declared.answer.Answer.TheVariants as answer

-- ---- bodies

-- a body that isn't of its form is refused
abbrev pub form_of : {X : Type 0} → Result (Option X) AllocError → Result X EditFail
form_of (Ok (Some x)) = Ok x
form_of (Ok None) = Err (Refused BodyForm)
form_of (Err e) = Err (Store Memory)

-- what a body says is what makes this request, or why there is none; unless it is out of memory
abbrev pub Asks : {X : Type 0} → (X → Request) → Result Request Refusal → Result X EditFail → Type 0
Asks make request (Ok x) = request ≡ Ok (make x)
Asks make request (Err (Refused r)) = request ≡ Err r
Asks make request (Err (Store e)) = e ≡ Memory

-- if the verdict refuses, the organisation stays this one
abbrev pub KeepsRefused : Tenant → Verdict → Type 0
KeepsRefused t v = (r : Refusal) → v.answer ≡ Err r → v.tenant ≡ t

-- ---- answers

-- an answer, as the verdict calls it
abbrev pub answer_of : Answer → Done
answer_of answer.Done = done
answer_of (answer.Made id) = made_new id
answer_of (answer.Upserted id created) = upserted id created

-- what an upsert answers, as an answer
abbrev pub as_upserted : Upserted → Answer
as_upserted x = answer.Upserted x.id x.created

-- what an edit answers, seen by view; or why it isn't made
abbrev pub seen : {X : Type 0} → (X → Answer) → Result X EditFail → Result Answer EditFail
seen view (Ok x) = Ok (view x)
seen view (Err e) = Err e

-- an answer to a request of this route: a new record, user, role or group has an id, and what is upserted has one and is new or not
abbrev pub IsAnswerTo : Route → Answer → Type 0
IsAnswerTo (Create object) (answer.Made id) = Unit {0}
IsAnswerTo (Create object) _ = ⊥
IsAnswerTo (Upsert object key value) (answer.Upserted id created) = Unit {0}
IsAnswerTo (Upsert object key value) _ = ⊥
IsAnswerTo AddUser (answer.Made id) = Unit {0}
IsAnswerTo AddUser _ = ⊥
IsAnswerTo AddRole (answer.Made id) = Unit {0}
IsAnswerTo AddRole _ = ⊥
IsAnswerTo AddGroup (answer.Made id) = Unit {0}
IsAnswerTo AddGroup _ = ⊥
IsAnswerTo _ answer.Done = Unit {0}
IsAnswerTo _ _ = ⊥

-- ---- edits

-- an edit of the organisation with this number by its verdict, which changes nothing where it refuses
abbrev pub EditsTo : (org : ℕ) → Tenant → Verdict → Tables → Result Answer EditFail → Type 0
EditsTo org t v after (Ok x) = (v.answer ≡ Ok (answer_of x)) × StandsFor org after (Some v.tenant)
EditsTo org t v after (Err (Refused r)) = (v.answer ≡ Err r) × (v.tenant ≡ t)
EditsTo org t v after (Err (Store e)) = e ≢ Damaged

-- the same over these tables, of which those came: whatever they have, no row of others changes; and it is so for such a one as
-- asks
pub record EditsFrom (org : ℕ) (asks : Asked → Type 0) (verdict : Asked → Verdict) (m after : Tables) (result : Result Answer EditFail) : Type 0 where
  pub others : OthersStay org m after result
  pub edited : (q : OrgPlan) (a : Asked) → StandsIn org q m (Some a.tenant) → asks a → EditsTo org a.tenant (verdict a) after result

-- who has these rights
abbrev pub HasRights : Whose → Asked → Type 0
HasRights whose a = whose a.tenant a.user

-- whoever asks, and whenever
abbrev pub Anyone : Asked → Type 0
Anyone a = Unit {0}

-- ---- replies

-- the reply that an edit was made: 204, or 201 with the id of what is new; of an upsert 201 or 200, with the id and whether it is new
abbrev pub reply_made : Answer → Reply
reply_made answer.Done = json_reply 204 []
reply_made (answer.Made id) = json_reply 201 (object_json (made_members id))
reply_made (answer.Upserted id created) =
    json_reply (if created then 201 else 200) (object_json (made_members id ++ member_json (codes "created") (printed_truth created) ∷ []))

-- the reply to an edit: of its answer, the refusal, or none where the work on the tables stopped
abbrev pub reply_to : Result Answer EditFail → Result (Judged Reply) StoreFail
reply_to (Ok x) = Ok (Changed (reply_made x))
reply_to (Err (Refused r)) = Ok (Same (refusal_reply r))
reply_to (Err (Store e)) = Err e
