-- What a run does that serves connections.
use Rattle.std.specs.Prelude.{◌≡◌, ◌⊎◌, ℕ, ◌<◌, ◌≤◌, List, [], ◌∷◌, ◌++◌, length, Some, Result, Ok, Err}
use Rattle.std.specs.Io.KnownBytes.{Appends}
use Rattle.base_value.specs.Causes.{RoseBy}
use Rattle.base_io.specs.Doors.{DoorState, outputs}
use Rattle.base_io.specs.declared.traits.IoFail.{IoFail}
use Rattle.model.specs.World.{World, tenant_at}
use Rattle.server.specs.Connections.{Connection, AreServed, end_of, exchanges_of, faulted, inputs_of, outputs_of}
use Rattle.server.specs.Exchanges.{Exchange, LeavesBehind}
use Rattle.server.specs.Isolation.{asked_of, replies_of, replies_to}
use Rattle.server.specs.Senses.{Sense}
use Rattle.server.specs.declared.wire.LineFail.{LineFail}
use Rattle.server.specs.declared.wire.LineFail.TheVariants.{Read, Write}
use Rattle.platform.specs.Seen.{Seen}
use Rattle.commands.specs.declared.stop.Stop.{Stop}
use Rattle.commands.specs.declared.stop.Stop.TheVariants as stop

-- the replies to one organisation's requests are those to these requests alone, from any world that has the same organisation
abbrev pub IsIsolated : World → List Exchange → Type 0
IsIsolated w xs = (org : ℕ) (v : World) → tenant_at w org ≡ tenant_at v org → replies_of org xs ≡ replies_to v (asked_of org xs)

-- these connections were served, from the world w and these moments
pub record Served (sense : Sense) (w : World) (moments : List ℕ) (cs : List Connection) (a b : Seen) : Type 0 where
  pub end : World
  pub later : List ℕ
  pub served : AreServed sense cs w moments end later
  pub isolated : IsIsolated w (exchanges_of cs)
  pub asked : b.coming ≡ Some later
  pub kept : LeavesBehind sense end (exchanges_of cs) a.keeper b.keeper

-- nothing but the opening was tried
pub record OpensOnly (sense : Sense) (w : World) (a b : Seen) : Type 0 where
  pub kept : LeavesBehind sense w [] a.keeper b.keeper
  pub door : b.door ≡ a.door
  pub left : b.left ≡ a.left
  pub written : b.written ≡ a.written
  pub coming : b.coming ≡ a.coming

-- the opening stopped: out of memory, or at the keeper
abbrev pub IsOpening : Result ℕ Stop → Type 0
IsOpening (Err stop.NoMemory) = Unit {0}
IsOpening (Err stop.KeeperFailed) = Unit {0}
IsOpening _ = ⊥

-- how a run ends by the end of its one connection
abbrev pub answer_end : Result (Unit {0}) LineFail → Result ℕ Stop
answer_end (Ok done) = Ok 0
answer_end (Err Read) = Err stop.SourceFailed
answer_end (Err Write) = Err stop.SinkFailed

-- how a run ends by the end of its connections
abbrev pub serve_end : Result (Unit {0}) IoFail → Result ℕ Stop
serve_end (Ok done) = Ok 0
serve_end (Err fail) = Err stop.DoorFailed

-- one connection, from source to sink
abbrev pub RunsAnswer : Sense → World → Seen → Seen → Result ℕ Stop → Type 0
RunsAnswer sense w a b r =
    (input moments : List ℕ) → a.left ≡ Some input → a.coming ≡ Some moments
    → (IsOpening r × OpensOnly sense w a b)
    ⊎ ((c : Connection) × (c.input ≡ input) × Served sense w moments (c ∷ []) a b × Appends a.written b.written c.output × (r ≡ answer_end (end_of c)))

-- how many connections were served, if `count` were to be and these are still to come: fewer if the door failed
abbrev pub ServeEnds : (count served : ℕ) → List (List ℕ) → Result ℕ Stop → Type 0
ServeEnds count served coming (Ok status) = (status ≡ 0) × ((served ≡ count) ⊎ (coming ≡ []))
ServeEnds count served coming (Err stop.DoorFailed) = served < count
ServeEnds count served coming (Err _) = ⊥

-- the first connections of the door, `count` of them or all
abbrev pub RunsServe : Sense → (count : ℕ) → World → Seen → Seen → Result ℕ Stop → Type 0
RunsServe sense count w a b r =
    (d : DoorState) (moments : List ℕ) → a.door ≡ Some d → a.coming ≡ Some moments
    → (IsOpening r × OpensOnly sense w a b)
    ⊎ ((cs : List Connection) × (e : DoorState) × (b.door ≡ Some e) × (d.coming ≡ inputs_of cs ++ e.coming) × (outputs e ≡ outputs d ++ outputs_of cs)
    × Served sense w moments cs a b × RoseBy (faulted cs) a.line_faults b.line_faults × (length cs ≤ count) × ServeEnds count (length cs) e.coming r)
