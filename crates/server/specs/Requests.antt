-- Requests: what the step of the world is asked, a request as an operation that has a reply's bytes, and the reply to bytes
-- that are no message.
use Rattle.std.specs.Prelude.{◌≡◌, ℕ, Bool, true, List, [], IsSome}
use Rattle.server_http.specs.declared.fail.HttpFail.{HttpFail}
use Rattle.server_http.specs.declared.fail.HttpFail.TheVariants as fail
use Rattle.server_http.specs.declared.message.HttpMessage.{HttpMessage}
use Rattle.http.specs.StatusCode.{reason_phrase}
use Rattle.server_http.specs.Reply.{reply, reply_to}
use Rattle.model.specs.declared.refusal.Refusal.{Refusal}
use Rattle.model.specs.declared.refusal.Refusal.TheVariants as refusal
use Rattle.model.specs.declared.reply.Reply.{Reply}
use Rattle.model.specs.Bodies.{refusal_body}
use Rattle.model.specs.Refusals.{status_of}
use Rattle.model.specs.Step.{Message}
use Rattle.model.specs.World.{World}
use Rattle.store_abstraction.specs.declared.judged.Judged.{Judged}
use Rattle.store_abstraction.specs.declared.judged.Judged.TheVariants.{Changed, Same}
use Rattle.model_requests.specs.Step.{step}

-- what is asked: a message without what it says of its connection
abbrev pub message_in : HttpMessage → Message
message_in m = record { method = m.method; target = m.target; bearer = m.bearer; body = m.body }

-- a request as an operation: the bytes of its reply, and the world after it
abbrev pub does : Message → (close : Bool) → (now : ℕ) → World → List ℕ × World
does m close now w = (reply_to m.method (step w m now).0.status (step w m now).0.body close, (step w m now).1)

-- a reply of HTTP: its status has a phrase, and a 204 has no body (RFC 9110, 15.3.5)
abbrev pub HasForm : Reply → Type 0
HasForm r = IsSome (reason_phrase r.status) × (r.status ≡ 204 → r.body ≡ [])

abbrev pub JudgedForm : Judged Reply → Type 0
JudgedForm (Same r) = HasForm r
JudgedForm (Changed r) = HasForm r

-- the bytes of a judged reply to a message with this method
abbrev pub in_bytes : (method : List ℕ) → (close : Bool) → Judged Reply → Judged (List ℕ)
in_bytes method close (Same r) = Same (reply_to method r.status r.body close)
in_bytes method close (Changed r) = Changed (reply_to method r.status r.body close)

-- ---- bytes that are no message

-- why bytes are no message, as a refusal; the last two are none
abbrev pub head_refusal : HttpFail → Refusal
head_refusal fail.BadHead = refusal.BadHead
head_refusal fail.HeadTooLarge = refusal.HeadTooLarge
head_refusal fail.TransferEncoding = refusal.TransferEncoding
head_refusal fail.LengthRequired = refusal.LengthRequired
head_refusal fail.BodyTooLarge = refusal.BodyTooLarge
head_refusal fail.Failed = refusal.BadHead
head_refusal fail.Memory = refusal.BadHead

-- the bytes of the reply that refuses so
abbrev pub refusal_bytes : Refusal → (close : Bool) → List ℕ
refusal_bytes r close = reply (status_of r) (refusal_body r) close

-- the reply to bytes that are no message: the last of its connection
abbrev pub last_reply : HttpFail → List ℕ
last_reply e = refusal_bytes (head_refusal e) true
