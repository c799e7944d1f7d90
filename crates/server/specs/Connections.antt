-- Connections that were served: messages in turn, each answered in the world that the one before it left, and how a connection
-- ends. Source: RFC 9112, 9.3 and 9.6 (persistence, and the option `close`); the count of 1,000 replies is the product's own.
use Rattle.std.specs.Prelude.{◌≡◌, ◌⊎◌, ℕ, ◌+◌, ◌≤◌, Bool, true, false, ◌||◌, ◌==◌, is_err, if◌then◌else◌, List, [], ◌∷◌, ◌++◌, length, map, take, Some, Result, Ok, Err}
use Rattle.server_http.specs.declared.fail.HttpFail.{HttpFail}
use Rattle.server_http.specs.declared.message.HttpMessage.{HttpMessage}
use Rattle.server_http.specs.Item.{whole, refused, ended, broken, IsItem}
use Rattle.server_http.specs.Reply.{reply, no_memory}
use Rattle.base_io.specs.Moments.{IsFirstMoment, after_asking}
use Rattle.model.specs.World.{World}
use Rattle.server.specs.Exchanges.{Exchange, IsKnownIn, reply_in, world_after}
use Rattle.server.specs.Requests.{last_reply, message_in}
use Rattle.server.specs.Senses.{Sense}
use Rattle.server.specs.declared.wire.LineFail.{LineFail}
use Rattle.server.specs.declared.wire.LineFail.TheVariants.{Read, Write}

-- the number of a connection's last message, counted from 0: its reply closes
abbrev pub last_message : ℕ
last_message = 999

-- ---- one request after another

-- a place in a connection: what is to come, and how far it has come
pub record Place : Type 0 where
  -- the world
  pub world : World
  -- the clock's moments to come
  pub moments : List ℕ
  -- the input left
  pub input : List ℕ
  -- how many requests were answered so far, and whether the last reply closes
  pub count : ℕ
  pub closed : Bool

abbrev pub begins : World → List ℕ → List ℕ → Place
begins w moments input = record { world = w; moments = moments; input = input; count = 0; closed = false }

-- the first message of the input is answered in the present world, at the next moment
pub record IsAnswered (sense : Sense) (p : Place) (x : Exchange) (q : Place) : Type 0 where
  pub goes_on : p.closed ≡ false
  pub request : HttpMessage
  pub item : IsItem p.input (whole request) q.input
  pub message : x.message ≡ message_in request
  pub world : x.world ≡ p.world
  pub moment : IsFirstMoment (Some p.moments) x.now
  -- the thousandth reply closes
  pub close : x.close ≡ (request.close || (p.count == last_message))
  pub known : IsKnownIn sense x
  pub next : q ≡ record { world = world_after x; moments = after_asking p.moments; input = q.input; count = p.count + 1; closed = x.close }

abbrev pub Follows : Sense → Place → List Exchange → Place → Type 0
Follows sense p [] q = q ≡ p
Follows sense p (x ∷ xs) q = (next : Place) × IsAnswered sense p x next × Follows sense next xs q

-- ---- a whole connection

-- how a connection is over
pub data Over : Type 0 where
  -- at the end of its input, or at a message that is cut short
  at_end : Over
  -- at bytes that are refused, with a reply that closes
  at_refusal : HttpFail → Over
  -- after a reply that closes
  at_close : Over
  -- out of memory in place of an item: a 507 that closes
  at_memory : Over
  -- a read failed, or the write of the last reply did
  at_fault : Over

pub record Connection : Type 0 where
  -- all that came or was to come
  pub input : List ℕ
  pub exchanges : List Exchange
  pub over : Over
  -- whether its last text was written whole; else that write failed
  pub written : Bool
  pub output : List ℕ

-- what is written after the replies
abbrev pub last_words : Over → List (List ℕ)
last_words at_end = []
last_words (at_refusal e) = last_reply e ∷ []
last_words at_close = []
last_words at_memory = reply 507 no_memory true ∷ []
last_words at_fault = []

-- its texts in turn
abbrev pub texts : Connection → List (List ℕ)
texts c = map reply_in c.exchanges ++ last_words c.over

abbrev pub joined : List (List ℕ) → List ℕ
joined [] = []
joined (t ∷ ts) = t ++ joined ts

-- the texts were written: all, or all but the last and a prefix of that
abbrev pub IsOutput : List (List ℕ) → Bool → List ℕ → Type 0
IsOutput ts true out = out ≡ joined ts
IsOutput ts false out = (before : List (List ℕ)) × (last : List ℕ) × (n : ℕ) × (ts ≡ before ++ last ∷ []) × (n ≤ length last) × (out ≡ joined before ++ take n last)

-- it may be over so at this place
abbrev pub IsOver : Over → Bool → Place → Type 0
IsOver at_end written p = (written ≡ true) × (p.closed ≡ false) × (IsItem p.input ended p.input ⊎ IsItem p.input broken p.input)
IsOver (at_refusal e) written p = (p.closed ≡ false) × IsItem p.input (refused e) p.input
IsOver at_close written p = (written ≡ true) × (p.closed ≡ true)
IsOver at_memory written p = p.closed ≡ false
IsOver at_fault written p = written ≡ true → p.closed ≡ false

-- a connection, from the world and the moments at its start to those at its end
pub record IsServed (sense : Sense) (c : Connection) (w : World) (moments : List ℕ) (end : World) (later : List ℕ) : Type 0 where
  pub last : Place
  pub follows : Follows sense (begins w moments c.input) c.exchanges last
  pub over : IsOver c.over c.written last
  pub output : IsOutput (texts c) c.written c.output
  pub world : end ≡ last.world
  pub moments_left : later ≡ last.moments

-- what it ended with: an error if a read or a write ended it
abbrev pub end_by : Bool → Over → Result (Unit {0}) LineFail
end_by false over = Err Write
end_by true at_fault = Err Read
end_by true at_end = Ok tt
end_by true (at_refusal e) = Ok tt
end_by true at_close = Ok tt
end_by true at_memory = Ok tt

abbrev pub end_of : Connection → Result (Unit {0}) LineFail
end_of c = end_by c.written c.over

-- ---- connections in turn

abbrev pub AreServed : Sense → List Connection → World → List ℕ → World → List ℕ → Type 0
AreServed sense [] w moments end later = (end ≡ w) × (later ≡ moments)
AreServed sense (c ∷ cs) w moments end later = (next : World) × (between : List ℕ) × IsServed sense c w moments next between × AreServed sense cs next between end later

abbrev pub exchanges_of : List Connection → List Exchange
exchanges_of [] = []
exchanges_of (c ∷ cs) = c.exchanges ++ exchanges_of cs

abbrev pub inputs_of : List Connection → List (List ℕ)
inputs_of cs = map (λ c. c.input) cs

abbrev pub outputs_of : List Connection → List (List ℕ)
outputs_of cs = map (λ c. c.output) cs

-- how many of them a read or a write ended
abbrev pub faulted : List Connection → ℕ
faulted [] = 0
faulted (c ∷ cs) = (if is_err (end_of c) then 1 else 0) + faulted cs
