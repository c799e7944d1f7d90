-- A keeper that falls, which is trusted no more: in which request of the connections that are served, that nothing from it on is
-- acknowledged, and what a crash leaves from then on. Source: J. Gray and A. Reuter, "Transaction Processing: Concepts and Techniques" (1993), of durability and of
-- the one request whose outcome is in doubt.
use Rattle.std.specs.Prelude.{◌≡◌, ◌⊎◌, ℕ, Bool, false, ◌||◌, ◌==◌, IsTrue, List, [], ◌∷◌, ◌++◌, map, Option, Some, Result, Ok, Err}
use Rattle.std.specs.Io.KnownBytes.{Appends}
use Rattle.std.specs.List.{AllByRecursion}
use Rattle.server_http.specs.declared.message.HttpMessage.{HttpMessage}
use Rattle.server_http.specs.Item.{whole, IsItem}
use Rattle.server_http.specs.Reply.{reply_to, store_failed, no_memory}
use Rattle.base_io.specs.Doors.{DoorState, outputs}
use Rattle.base_io.specs.Moments.{IsFirstMoment}
use Rattle.base_io.specs.Streams.{AppendsFront}
use Rattle.store_kv.specs.State.{KeeperState}
use Rattle.store_kv.specs.Tables.{Tables}
use Rattle.model.specs.Bodies.{damaged_body}
use Rattle.model.specs.Step.{Message}
use Rattle.model.specs.World.{World}
use Rattle.store_abstraction.specs.Stands.{Stands}
use Rattle.server.specs.Connections.{Connection, Over, Place, AreServed, Follows, last_message, begins, inputs_of, joined, last_words, outputs_of}
use Rattle.server.specs.Exchanges.{Exchange, reply_in}
use Rattle.server.specs.Requests.{message_in}
use Rattle.server.specs.Senses.{of_all}
use Rattle.server.specs.Turning.{Wrote}
use Rattle.server.specs.declared.wire.LineFail.{LineFail}
use Rattle.server.specs.declared.wire.LineFail.TheVariants.{Read, Write}
use Rattle.model_requests.specs.Step.{step}

-- it told its tables and was trusted, and is trusted no more, though nothing that it told was wrong
abbrev pub Fell : KeeperState → KeeperState → Type 0
Fell old new = old.tells × IsTrue old.trusted × (new.trusted ≡ false) × IsTrue new.is_clean

-- a crash leaves tables of this world, or of the one after this message
abbrev pub MayLeave : World → Message → (now : ℕ) → KeeperState → Type 0
MayLeave w m now k = (t : Tables) → k.may_leave t → Stands t w ⊎ Stands t (step w m now).1

-- a reply that acknowledges nothing: the store failed, memory ran out, or the store is damaged
abbrev pub IsUndone : (method : List ℕ) → (close : Bool) → List ℕ → Type 0
IsUndone method close text =
    (text ≡ reply_to method 503 store_failed close)
    ⊎ ((text ≡ reply_to method 507 no_memory close) ⊎ (text ≡ reply_to method 500 damaged_body close))

-- a text that acknowledges nothing: such a reply, or the last words of a connection
abbrev pub IsUndoneText : List ℕ → Type 0
IsUndoneText text = ((method : List ℕ) × (close : Bool) × IsUndone method close text) ⊎ ((over : Over) × (last_words over ≡ text ∷ []))

-- texts that acknowledge nothing were written, one after the other: all whole, or a front of them
pub record WritesUndone (full : Bool) (before after : Option (List ℕ)) : Type 0 where
  pub texts : List (List ℕ)
  pub undone : AllByRecursion IsUndoneText texts
  pub out : List ℕ
  pub rest : List ℕ
  pub front : out ++ rest ≡ joined texts
  pub is_full : IsTrue full → rest ≡ []
  pub output : Appends before after out

-- ---- one request

-- the keeper fell in the request that comes first at this place of a connection
pub record FallsAt (p : Place) (new : KeeperState) : Type 0 where
  pub goes_on : p.closed ≡ false
  pub request : HttpMessage
  pub rest : List ℕ
  pub item : IsItem p.input (whole request) rest
  pub now : ℕ
  pub moment : IsFirstMoment (Some p.moments) now
  pub crash : MayLeave p.world (message_in request) now new

-- whether the reply to it closes the connection
abbrev pub closes : (p : Place) (new : KeeperState) → FallsAt p new → Bool
closes p new at = at.request.close || (p.count == last_message)

-- the text was written, or a prefix of it if the write failed
abbrev pub WroteIn : Option (List ℕ) → Option (List ℕ) → List ℕ → Result Bool LineFail → Type 0
WroteIn before after text (Ok over) = Appends before after text
WroteIn before after text (Err Write) = AppendsFront before after text
WroteIn before after text (Err Read) = ⊥

-- a message was answered so, and the keeper fell in it
abbrev pub FallsOn : World → HttpMessage → List ℕ → KeeperState → Option (List ℕ) → Option (List ℕ) → Result (Unit {0}) LineFail → Type 0
FallsOn w m moments new before after result =
    (now : ℕ) × IsFirstMoment (Some moments) now × MayLeave w (message_in m) now new × (text : List ℕ) × IsUndone m.method m.close text × Wrote before after text result

-- the keeper fell in this turn
abbrev pub FallsIn : Place → KeeperState → Option (List ℕ) → Option (List ℕ) → Result Bool LineFail → Type 0
FallsIn p new before after result = (at : FallsAt p new) × (text : List ℕ) × IsUndone at.request.method (closes p new at) text × WroteIn before after text result

-- ---- a connection

-- what was written is a front of this text and of texts behind it that acknowledge nothing
abbrev pub IsUndoneBehind : List ℕ → List ℕ → Type 0
IsUndoneBehind text out = (texts : List (List ℕ)) × AllByRecursion IsUndoneText texts × (rest : List ℕ) × (out ++ rest ≡ text ++ joined texts)

-- the keeper fell while a connection was served
pub record Falls (w : World) (moments input : List ℕ) (before after : Option (List ℕ)) (new : KeeperState) : Type 0 where
  -- the requests that were answered before
  pub answered : List Exchange
  pub place : Place
  pub follows : Follows of_all (begins w moments input) answered place
  -- the request in which it fell; its reply acknowledges nothing
  pub at : FallsAt place new
  pub text : List ℕ
  pub undone : IsUndone at.request.method (closes place new at) text
  -- the replies before it were written, then this one, and behind it nothing that acknowledges anything
  pub out : List ℕ
  pub goes_out : IsUndoneBehind text out
  pub output : Appends before after (joined (map reply_in answered) ++ out)

-- ---- the connections of a door

-- the keeper fell while one of the connections of a door was served, from d to e
pub record FallsServing (w : World) (moments : List ℕ) (d e : DoorState) (new : KeeperState) : Type 0 where
  -- the connections that were served before
  pub served : List Connection
  pub between : World
  pub later : List ℕ
  pub are_served : AreServed of_all served w moments between later
  -- the one in which it fell
  pub input : List ℕ
  pub coming : List (List ℕ)
  pub inputs : d.coming ≡ inputs_of served ++ input ∷ coming
  pub output : List ℕ
  pub more : List (List ℕ)
  pub outputs_are : outputs e ≡ outputs d ++ (outputs_of served ++ output ∷ more)
  pub falls : Falls between later input (Some []) (Some output) new
  -- and no connection after it was told that anything is done
  pub undone : AllByRecursion (IsUndoneBehind []) more

-- the same of a door that tells what it holds
abbrev pub FallsBringing : World → List ℕ → DoorState → Option DoorState → KeeperState → Type 0
FallsBringing w moments d held new = (e : DoorState) × (held ≡ Some e) × FallsServing w moments d e new

-- a door that tells what it holds still does, and behind the outputs that it had it has such as acknowledge nothing
abbrev pub OutputsUndone : Option DoorState → Option DoorState → Type 0
OutputsUndone old new = (d : DoorState) → old ≡ Some d → (e : DoorState) × (new ≡ Some e) × (more : List (List ℕ)) × AllByRecursion (IsUndoneBehind []) more × (outputs e ≡ outputs d ++ more)
