-- Answers: the bytes that an answer to one request holds, and what one request does.
use Rattle.std.specs.Prelude.{◌≡◌, ℕ, Bool, true, false, List, [], ◌∷◌, Result, Ok, Err}
use Rattle.server_http.specs.declared.message.HttpMessage.{HttpMessage}
use Rattle.server_http.specs.Reply.{reply_to, store_failed, no_memory}
use Rattle.store_kv.specs.State.{KeeperState}
use Rattle.store_rows.specs.declared.fail.StoreFail.{StoreFail}
use Rattle.store_rows.specs.declared.fail.StoreFail.TheVariants as fail
use Rattle.model.specs.Bodies.{damaged_body}
use Rattle.model.specs.World.{World}
use Rattle.server.specs.declared.request.Answer.{Answer}
use Rattle.server.specs.declared.request.Answer.TheVariants.{Made, Damaged, Unavailable, OutOfMemory}
use Rattle.server.specs.Exchanges.{Exchange, IsKnownIn, LeavesBehind, Outcome, reply_in, world_after}
use Rattle.server.specs.Requests.{message_in}
use Rattle.server.specs.Senses.{Sense}

-- the bytes that an answer holds to a message with this method
abbrev pub bytes_in : (method : List ℕ) → Answer → List ℕ
bytes_in method (Made bytes) = bytes
bytes_in method (Damaged bytes) = bytes
bytes_in method (Unavailable close) = reply_to method 503 store_failed close
bytes_in method (OutOfMemory close) = reply_to method 507 no_memory close

-- an answer to this message that the definition of a step doesn't make is a fixed reply
abbrev pub IsFixed : HttpMessage → Answer → Type 0
IsFixed m (Made bytes) = Unit {0}
IsFixed m (Damaged bytes) = bytes ≡ reply_to m.method 500 damaged_body m.close
IsFixed m (Unavailable close) = close ≡ m.close
IsFixed m (OutOfMemory close) = close ≡ m.close

-- how the request ended
abbrev pub outcome_of : Answer → Result (List ℕ) StoreFail
outcome_of (Made bytes) = Ok bytes
outcome_of (Damaged bytes) = Err fail.Damaged
outcome_of (Unavailable close) = Err fail.Keeper
outcome_of (OutOfMemory close) = Err fail.Memory

abbrev pub IsMade : Answer → Type 0
IsMade (Made bytes) = Unit {0}
IsMade (Damaged bytes) = ⊥
IsMade (Unavailable close) = ⊥
IsMade (OutOfMemory close) = ⊥

-- the same as a truth value
abbrev pub is_made : Answer → Bool
is_made (Made bytes) = true
is_made (Damaged bytes) = false
is_made (Unavailable close) = false
is_made (OutOfMemory close) = false

abbrev pub IsDamaged : Answer → Type 0
IsDamaged (Made bytes) = ⊥
IsDamaged (Damaged bytes) = Unit {0}
IsDamaged (Unavailable close) = ⊥
IsDamaged (OutOfMemory close) = ⊥

abbrev pub IsUnavailable : Answer → Type 0
IsUnavailable (Made bytes) = ⊥
IsUnavailable (Damaged bytes) = ⊥
IsUnavailable (Unavailable close) = Unit {0}
IsUnavailable (OutOfMemory close) = ⊥

-- a message as a request in this world
abbrev pub exchange : World → HttpMessage → (now : ℕ) → Outcome → Exchange
exchange w m now o = record { world = w; message = message_in m; now = now; close = m.close; outcome = o }

-- one request: what is written for it, and what it leaves behind
abbrev pub Answers : Sense → World → HttpMessage → (now : ℕ) → KeeperState → KeeperState → List ℕ → Type 0
Answers sense w m now old new out =
    (o : Outcome) × (out ≡ reply_in (exchange w m now o)) × LeavesBehind sense (world_after (exchange w m now o)) (exchange w m now o ∷ []) old new
    × IsKnownIn sense (exchange w m now o)
