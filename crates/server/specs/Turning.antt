-- One turn and one connection: what is asked of the keeper and the clock, and what is read and written.
use Rattle.std.specs.Prelude.{◌≡◌, ◌⊎◌, ℕ, Bool, true, List, [], ◌∷◌, Option, Some, Result, Ok, Err}
use Rattle.std.specs.Io.KnownBytes.{Appends}
use Rattle.server_http.specs.declared.fail.HttpFail.{HttpFail}
use Rattle.server_http.specs.declared.message.HttpMessage.{HttpMessage}
use Rattle.server_http.specs.Reply.{reply, no_memory}
use Rattle.base_io.specs.Moments.{IsFirstMoment, after_asking}
use Rattle.base_io.specs.Streams.{AppendsFront}
use Rattle.store_kv.specs.State.{KeeperState}
use Rattle.model.specs.World.{World}
use Rattle.server.specs.Answers.{exchange}
use Rattle.server.specs.Connections.{Connection, IsAnswered, IsOutput, IsOver, IsServed, Over, Place, end_by, end_of, last_words}
use Rattle.server.specs.Exchanges.{Exchange, IsKnownIn, LeavesBehind, Outcome, reply_in, world_after}
use Rattle.server.specs.Requests.{last_reply}
use Rattle.server.specs.Senses.{Sense}
use Rattle.server.specs.declared.wire.LineFail.{LineFail}
use Rattle.server.specs.declared.wire.LineFail.TheVariants.{Read, Write}

-- the clock and the input are those of this place
abbrev pub IsHere : Place → Option (List ℕ) → Option (List ℕ) → Type 0
IsHere p coming input = (coming ≡ Some p.moments) × (input ≡ Some p.input)

-- one text was written, or a prefix of it if the write failed
abbrev pub Wrote : Option (List ℕ) → Option (List ℕ) → List ℕ → Result (Unit {0}) LineFail → Type 0
Wrote before after text (Ok done) = Appends before after text
Wrote before after text (Err Write) = AppendsFront before after text
Wrote before after text (Err Read) = ⊥

-- the reply was written, and what is returned is whether it closes
abbrev pub Replied : Option (List ℕ) → Option (List ℕ) → Exchange → Result Bool LineFail → Type 0
Replied before after x (Ok close) = (close ≡ x.close) × Appends before after (reply_in x)
Replied before after x (Err Write) = AppendsFront before after (reply_in x)
Replied before after x (Err Read) = ⊥

-- whether the connection is over, if no write failed
abbrev pub over_if_written : Bool → Result (Unit {0}) LineFail → Result Bool LineFail
over_if_written over (Ok done) = Ok over
over_if_written over (Err e) = Err e

abbrev pub over_by : Result (Unit {0}) LineFail → Result Bool LineFail
over_by r = over_if_written true r

-- one turn: a request is answered, or the connection is over
abbrev pub Turns : Sense → Place → KeeperState → KeeperState → Option (List ℕ) → Option (List ℕ) → Option (List ℕ) → Option (List ℕ) → Result Bool LineFail → Type 0
Turns sense p old new coming input before after result =
    ((x : Exchange) × (q : Place) × IsAnswered sense p x q × LeavesBehind sense q.world (x ∷ []) old new × IsHere q coming input × Replied before after x result)
    ⊎ ((o : Over) × (written : Bool) × IsOver o written p × LeavesBehind sense p.world [] old new × (coming ≡ Some p.moments)
    × (out : List ℕ) × IsOutput (last_words o) written out × Appends before after out × (result ≡ over_by (end_by written o)))

-- a whole connection
abbrev pub Serves : Sense → World → List ℕ → List ℕ → KeeperState → KeeperState → Option (List ℕ) → Option (List ℕ) → Option (List ℕ) → Result (Unit {0}) LineFail → Type 0
Serves sense w moments input old new coming before after result =
    (c : Connection) × (end : World) × (later : List ℕ) × (c.input ≡ input) × IsServed sense c w moments end later × LeavesBehind sense end c.exchanges old new
    × (coming ≡ Some later) × Appends before after c.output × (result ≡ end_of c)

-- a message was answered, and the reply written
abbrev pub RepliesTo : Sense → World → HttpMessage → List ℕ → KeeperState → KeeperState → Option (List ℕ) → Option (List ℕ) → Option (List ℕ) → Result (Unit {0}) LineFail → Type 0
RepliesTo sense w m moments old new coming before after result =
    (now : ℕ) × (o : Outcome) × IsFirstMoment (Some moments) now × LeavesBehind sense (world_after (exchange w m now o)) (exchange w m now o ∷ []) old new
    × (coming ≡ Some (after_asking moments)) × Wrote before after (reply_in (exchange w m now o)) result × IsKnownIn sense (exchange w m now o)

-- the reply to a refusal was written, or a 507 in its place
abbrev pub RefusesWith : HttpFail → Option (List ℕ) → Option (List ℕ) → Result (Unit {0}) LineFail → Type 0
RefusesWith e before after result = Wrote before after (last_reply e) result ⊎ Wrote before after (reply 507 no_memory true) result
