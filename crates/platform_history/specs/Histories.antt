-- What runs do in turn, from a world on: words, bytes, moments and worlds alone. Nothing here knows of a table or a row.
use Rattle.std.specs.Prelude.{◌≡◌, ◌⊎◌, ℕ, ◌≤◌, ◌==◌, ◌||◌, true, false, if◌then◌else◌, List, [], ◌∷◌, ◌++◌, length, map, Option, Some, None, Result}
use Rattle.std.specs.Io.KnownBytes.{Appends}
use Rattle.std.specs.List.{AllByRecursion}
use Rattle.base_value.specs.Causes.{Rose, RoseBy}
use Rattle.server_http.specs.declared.message.HttpMessage.{HttpMessage}
use Rattle.server_http.specs.Item.{whole, IsItem}
use Rattle.base_io.specs.Doors.{DoorState, outputs}
use Rattle.base_io.specs.Moments.{IsFirstMoment}
use Rattle.model.specs.World.{World}
use Rattle.server.specs.Connections.{Connection, Place, AreServed, Follows, begins, end_of, exchanges_of, faulted, inputs_of, joined, last_message, outputs_of}
use Rattle.server.specs.Exchanges.{Exchange, reply_in, stores}
use Rattle.server.specs.Falls.{IsUndone, IsUndoneBehind}
use Rattle.server.specs.Leads.{IsReached}
use Rattle.server.specs.Requests.{message_in}
use Rattle.server.specs.Senses.{of_all}
use Rattle.commands.specs.Commands.{Command, Printing, answers, is_opening, prints, printed, serves, uses}
use Rattle.commands.specs.Deeds.{CutShort, Prints}
use Rattle.platform.specs.Promise.{IsStatus}
use Rattle.platform.specs.Run.{MayBe, status_in}
use Rattle.platform.specs.Serving.{IsIsolated, IsOpening, ServeEnds, answer_end}
use Rattle.commands.specs.declared.stop.Stop.{Stop}
use Rattle.platform_history.specs.Runs.{Around, Run}
use Rattle.model_requests.specs.Step.{step}

-- ---- a run that was whole, from the world w to `end`

-- a text was printed; where the keeper isn't opened the world stays, whatever is told
abbrev pub SaysPrints : Printing → World → World → Around → Around → ℕ → Type 0
SaysPrints p w end a b status =
    ((uses p).keeper ≡ false → end ≡ w)
    × ((bytes moments : List ℕ) × MayBe (uses p).source a.left bytes × MayBe (uses p).dated a.coming moments
    × (r : Result ℕ Stop) × (status ≡ status_in r) × (said : World) × Prints w (printed p w bytes moments) a.written b.written r said
    × (end ≡ (if (uses p).keeper then said else w)))

-- connections were served
pub record ServedSo (w end : World) (moments : List ℕ) (cs : List Connection) (a b : Around) : Type 0 where
  pub later : List ℕ
  pub served : AreServed of_all cs w moments end later
  pub isolated : IsIsolated w (exchanges_of cs)
  pub asked : b.coming ≡ Some later
  -- at most as many messages were answered 503 as the keeper's faults rose
  pub faults : RoseBy (stores (exchanges_of cs)) a.keeper_faults b.keeper_faults

-- nothing was served
abbrev pub ServedNone : World → World → Around → Around → Result ℕ Stop → Type 0
ServedNone w end a b r = IsOpening r × (end ≡ w) × (b.door ≡ a.door) × (b.left ≡ a.left) × (b.written ≡ a.written) × (b.coming ≡ a.coming)

-- one connection; where input or moments aren't told, some messages lead to the world
abbrev pub SaysAnswers : World → World → Around → Around → ℕ → Option (List ℕ) → Option (List ℕ) → Type 0
SaysAnswers w end a b status (Some input) (Some moments) =
    (r : Result ℕ Stop) × (status ≡ status_in r)
    × (ServedNone w end a b r
    ⊎ ((c : Connection) × (c.input ≡ input) × ServedSo w end moments (c ∷ []) a b × Appends a.written b.written c.output × (r ≡ answer_end (end_of c))))
SaysAnswers w end a b status _ _ = IsReached w end

-- the first connections of the door
abbrev pub SaysServes : ℕ → World → World → Around → Around → ℕ → Option DoorState → Option (List ℕ) → Type 0
SaysServes count w end a b status (Some d) (Some moments) =
    (r : Result ℕ Stop) × (status ≡ status_in r)
    × (ServedNone w end a b r
    ⊎ ((cs : List Connection) × (e : DoorState) × (b.door ≡ Some e) × (d.coming ≡ inputs_of cs ++ e.coming) × (outputs e ≡ outputs d ++ outputs_of cs)
    × ServedSo w end moments cs a b × RoseBy (faulted cs) a.line_faults b.line_faults × (length cs ≤ count) × ServeEnds count (length cs) e.coming r))
SaysServes count w end a b status _ _ = IsReached w end

abbrev pub Says : Command → World → World → Around → Around → ℕ → Type 0
Says (prints p) w end a b status = SaysPrints p w end a b status
Says answers w end a b status = SaysAnswers w end a b status a.left a.coming
Says (serves count) w end a b status = SaysServes count w end a b status a.door a.coming

-- ---- a run in which the store fell: one request is in doubt, and `end` is the world that a crash leaves

pub record Fallen (w end : World) (moments input : List ℕ) (before after : Option (List ℕ)) : Type 0 where
  -- those answered before, each reply written
  pub answered : List Exchange
  pub place : Place
  pub follows : Follows of_all (begins w moments input) answered place
  -- the one in doubt, whose reply acknowledges nothing
  pub goes_on : place.closed ≡ false
  pub request : HttpMessage
  pub rest : List ℕ
  pub item : IsItem place.input (whole request) rest
  pub now : ℕ
  pub moment : IsFirstMoment (Some place.moments) now
  pub text : List ℕ
  pub undone : IsUndone request.method (request.close || (place.count == last_message)) text
  pub out : List ℕ
  -- and behind it nothing that acknowledges anything
  pub goes_out : IsUndoneBehind text out
  pub output : Appends before after (joined (map reply_in answered) ++ out)
  -- all before it lasts, and it lasts whole or not at all
  pub doubt : (end ≡ place.world) ⊎ (end ≡ (step place.world (message_in request) now).1)

-- the connections before the one in which it fell are served
pub record FallenServing (w end : World) (moments : List ℕ) (d e : DoorState) : Type 0 where
  pub served : List Connection
  pub between : World
  pub later : List ℕ
  pub are_served : AreServed of_all served w moments between later
  pub input : List ℕ
  pub coming : List (List ℕ)
  pub inputs : d.coming ≡ inputs_of served ++ input ∷ coming
  pub output : List ℕ
  pub more : List (List ℕ)
  pub outputs_are : outputs e ≡ outputs d ++ (outputs_of served ++ output ∷ more)
  pub falls : Fallen between end later input (Some []) (Some output)
  -- no connection after it was told that anything is done
  pub undone : AllByRecursion (IsUndoneBehind []) more

abbrev pub BreaksAnswers : World → World → Around → Around → ℕ → Option (List ℕ) → Option (List ℕ) → Type 0
BreaksAnswers w end a b status (Some input) (Some moments) = ((is_opening status ≡ true) × (end ≡ w)) ⊎ Fallen w end moments input a.written b.written
BreaksAnswers w end a b status _ _ = IsReached w end

abbrev pub BreaksServes : World → World → Around → Around → ℕ → Option DoorState → Option (List ℕ) → Type 0
BreaksServes w end a b status (Some d) (Some moments) =
    ((is_opening status ≡ true) × (end ≡ w)) ⊎ ((e : DoorState) × (b.door ≡ Some e) × FallenServing w end moments d e)
BreaksServes w end a b status _ _ = IsReached w end

-- a text that was to be printed of the tables: its status acknowledges nothing; what was written is done, and at most the next deed
-- besides, whole or not at all
abbrev pub BreaksPrints : Printing → World → World → Around → Around → ℕ → Type 0
BreaksPrints p w end a b status =
    ((uses p).keeper ≡ true) × (((status ≡ 0) ⊎ (status ≡ 65)) → ⊥)
    × ((bytes moments : List ℕ) × MayBe (uses p).source a.left bytes × MayBe (uses p).dated a.coming moments
    × CutShort w (printed p w bytes moments) a.written b.written end)

abbrev pub Breaks : Command → World → World → Around → Around → ℕ → Type 0
Breaks (prints p) w end a b status = BreaksPrints p w end a b status
Breaks answers w end a b status = BreaksAnswers w end a b status a.left a.coming
Breaks (serves count) w end a b status = BreaksServes w end a b status a.door a.coming

-- ---- runs in turn

-- words that are no command end with 64 and change nothing; a command ends with one of its own statuses, and its run was whole,
-- or the store fell in it, and counted that
abbrev pub Goes : World → World → Option Command → Around → Around → ℕ → Type 0
Goes w end None a b status = (status ≡ 64) × (end ≡ w)
Goes w end (Some command) a b status =
    IsStatus (Some command) status × (Says command w end a b status ⊎ (Breaks command w end a b status × Rose a.keeper_faults b.keeper_faults))

-- each run goes from the world that the one before it left
abbrev pub Histories : World → List Run → Type 0
Histories w [] = Unit {0}
Histories w (r ∷ rs) = (end : World) × Goes w end r.command r.before r.after r.status × Histories end rs
