-- A user who asks, and what is returned to the request.
-- Source of the statuses: RFC 9110, 15.3.1, 15.3.2 and 15.3.5, of 200, 201 and 204.
use Rattle.std.specs.Prelude.{◌≡◌, ◌≢◌, ◌⊎◌, ℕ, Bool, true, false, [], IsTrue}
use Rattle.model.specs.declared.caller.Caller.{Caller}
use Rattle.model.specs.declared.reply.Reply.{Reply}
use Rattle.model_requests.specs.declared.route.Route.{Route}
use Rattle.model_requests.specs.declared.route.Route.TheVariants.{AddGroup, AddRole, AddUser, Create, GetRetype, Query, Upsert}
use Rattle.model.specs.Paths.{Asked}
use Rattle.model.specs.Refusals.{is_refusal_status}
use Rattle.access_traits.specs.Rights.{Whose}
use Rattle.store_abstraction.specs.declared.judged.Judged.{Judged}
use Rattle.store_abstraction.specs.declared.judged.Judged.TheVariants.{Changed, Same}
use Rattle.model.specs.Asker.{IsAsking}

-- the caller is the one who asks at this moment, and these are the rights of that user
abbrev pub AsksWith : Whose → Caller → (now : ℕ) → Asked → Type 0
AsksWith whose c now a = IsAsking c now a × whose a.tenant a.user

-- the route asks for an edit: neither for records, nor how far the change of a field's type is
abbrev pub is_edit : Route → Bool
is_edit (Query pairs) = false
is_edit GetRetype = false
is_edit _ = true

-- the reply to a change: of a new record, user, role or group 201 with a body, of an upsert 201 or 200 with one, and of all else
-- 204 without one
abbrev pub IsChangeReply : Route → Reply → Type 0
IsChangeReply (Create object) r = (r.status ≡ 201) × (r.body ≢ [])
IsChangeReply (Upsert object key value) r = ((r.status ≡ 201) ⊎ (r.status ≡ 200)) × (r.body ≢ [])
IsChangeReply AddUser r = (r.status ≡ 201) × (r.body ≢ [])
IsChangeReply AddRole r = (r.status ≡ 201) × (r.body ≢ [])
IsChangeReply AddGroup r = (r.status ≡ 201) × (r.body ≢ [])
IsChangeReply _ r = (r.status ≡ 204) × (r.body ≡ [])

-- what goes with no change refuses
abbrev pub IsEditReply : Route → Judged Reply → Type 0
IsEditReply route (Same r) = IsTrue (is_refusal_status r.status)
IsEditReply route (Changed r) = IsChangeReply route r
