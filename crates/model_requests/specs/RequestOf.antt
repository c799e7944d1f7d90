-- The request that a route and a body make, and what a user's message comes to in the organisation.
-- That a body which isn't of its form is refused first is this product's own.
use Rattle.std.specs.Prelude.{ℕ, Bool, not, ◌&&◌, if◌then◌else◌, List, Option, Some, None, Result, Ok, Err}
use Rattle.std.specs.Option.{option_map}
use Rattle.base_json.specs.Reading.{◌>>=◌}
use Rattle.soql.specs.declared.query.Query.{Query}
use Rattle.soql.specs.grammar.Spelling.{reads_query}
use Rattle.model.specs.declared.refusal.Refusal.{Refusal}
use Rattle.model.specs.declared.refusal.Refusal.TheVariants as refusal
use Rattle.model.specs.declared.reply.Reply.{Reply}
use Rattle.model_requests.specs.declared.route.Route.{Route}
use Rattle.model_requests.specs.declared.route.Route.TheVariants as route
use Rattle.model_requests.specs.declared.routed.Routed.{Routed}
use Rattle.model_requests.specs.declared.routed.Routed.TheVariants.{To, Reads, NotFound, NotAllowed}
use Rattle.model_requests.specs.Forms.{field_request, object_change_request, object_request, share_request, sharing_rule_request, validation_request}
use Rattle.model.specs.Asker.{stepped}
use Rattle.model.specs.Members.{Body, assignments, body_in, principal_in}
use Rattle.model.specs.Paths.{Asked}
use Rattle.model_requests.specs.PeopleForms.{group_change_request, group_request, organisation_request, retype_request, role_change_request, role_request, user_change_request, user_request}
use Rattle.model.specs.Replies.{reply_of}
use Rattle.model_requests.specs.Requests.{Request, asks, creates, updates, deletes, upserts, unshares, removes_validation_rule, removes_sharing_rule, removes_role, removes_group, gets_retype, cancels_retype, verdict_on}
use Rattle.model_requests.specs.Routing.{is_administration, routed}
use Rattle.model.specs.Step.{Message, query_text}
use Rattle.model.specs.Tenant.{Tenant}
use Rattle.model.specs.Verdict.{Verdict, refuse}
use Rattle.model_reads.specs.Parts.{value_part}
use Rattle.model_reads.specs.Reads.{for_administrators, read_verdict}

-- the request of a query, or the byte at which the token begins that can't be there
abbrev pub query_or : Result Query ℕ → Result Request Refusal
query_or (Ok q) = Ok (asks q)
query_or (Err place) = Err (refusal.MalformedQuery place)

-- the request that a body makes; one of another form is refused
abbrev pub request_or : Option Request → Result Request Refusal
request_or None = Err refusal.BodyForm
request_or (Some request) = Ok request

abbrev pub by_body : (bytes : List ℕ) → (Body → Option Request) → Result Request Refusal
by_body bytes form = request_or (body_in bytes >>= form)

-- the request that a route and a body make, or why there is none
unfoldable pub request_of : Route → (body : List ℕ) → Result Request Refusal
request_of (route.Query pairs) body = query_or (reads_query (query_text pairs))
request_of (route.Create object) body = by_body body (λ b. option_map (creates object) (assignments b))
request_of (route.Update object key) body = by_body body (λ b. option_map (updates object key) (assignments b))
request_of (route.Delete object key) body = Ok (deletes object key)
request_of (route.Upsert object key value) body =
    by_body body (λ b. option_map (upserts object key (value_part value)) (assignments b))
request_of route.Share body = by_body body share_request
request_of (route.Unshare item part) body = Ok (unshares item part (principal_in part))
request_of route.AddObject body = by_body body object_request
request_of (route.SetObject object) body = by_body body (object_change_request object)
request_of route.AddField body = by_body body field_request
request_of route.AddValidationRule body = by_body body validation_request
request_of (route.RemoveValidationRule object name) body = Ok (removes_validation_rule object name)
request_of route.AddSharingRule body = by_body body sharing_rule_request
request_of (route.RemoveSharingRule name) body = Ok (removes_sharing_rule name)
request_of route.AddUser body = by_body body user_request
request_of (route.SetUser id) body = by_body body (user_change_request id)
request_of route.AddRole body = by_body body role_request
request_of (route.SetRole id) body = by_body body (role_change_request id)
request_of (route.RemoveRole id) body = Ok (removes_role id)
request_of route.AddGroup body = by_body body group_request
request_of (route.SetGroup id) body = by_body body (group_change_request id)
request_of (route.RemoveGroup id) body = Ok (removes_group id)
request_of route.SetOrganisation body = by_body body organisation_request
request_of route.BeginRetype body = by_body body retype_request
request_of route.GetRetype body = Ok gets_retype
request_of route.CancelRetype body = Ok cancels_retype

-- ---- what a message comes to

abbrev pub verdict_or : Asked → Result Request Refusal → Verdict
verdict_or a (Ok request) = verdict_on a request
verdict_or a (Err refusal) = refuse a.tenant refusal

-- the verdict, unless it is for administrators and who asks is none
abbrev pub unless_barred : Asked → (for_administrators : Bool) → Verdict → Verdict
unless_barred a for_administrators verdict =
    if for_administrators && not a.user.admin then refuse a.tenant refusal.AdminRequired else verdict

-- no such path, another method, no administrator; then the form of the body, and the request itself, in the organisation with this number
abbrev pub verdict_at : (org : ℕ) → Asked → (body : List ℕ) → Routed → Verdict
verdict_at org a body NotFound = refuse a.tenant refusal.NotFound
verdict_at org a body NotAllowed = refuse a.tenant refusal.MethodNotAllowed
verdict_at org a body (To r) = unless_barred a (is_administration r) (verdict_or a (request_of r body))
verdict_at org a body (Reads r) = unless_barred a (for_administrators r) (read_verdict org a r)

-- the reply to a user's message, and the organisation after it: what is done before each request is done first, whatever the message comes to
abbrev pub answer_to : (org : ℕ) → Asked → Message → Reply × Tenant
answer_to org a m =
    let b = stepped a in
    let v = verdict_at org b m.body (routed m.method m.target) in
    (reply_of b v.answer, v.tenant)
