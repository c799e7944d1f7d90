-- How a door in memory lays out what it holds: all inputs and all outputs by the place of their connection, how many
-- connections have ended, and how far the input of the next one is read, where this is present.
use Rattle.std.specs.Prelude.{ℕ, ◌+◌, ◌≤◌, List, [], length, take, drop, slice_index_or, Option, Some, None}
use Rattle.base_io.specs.Doors.{Connection, DoorState}

-- how many connections have come
abbrev pub came : ℕ → Option ℕ → ℕ
came ended None = ended
came ended (Some at) = ended + 1

-- the connection at a place
abbrev pub connection_at : List (List ℕ) → List (List ℕ) → ℕ → Option ℕ → Option Connection
connection_at inputs outputs place None = None
connection_at inputs outputs place (Some at) =
    Some (record {
      input = drop at (slice_index_or inputs place []);
      output = slice_index_or outputs place [];
    })

abbrev pub state_at : List (List ℕ) → List (List ℕ) → ℕ → Option ℕ → DoorState
state_at inputs outputs ended at = record {
  coming = drop (came ended at) inputs;
  present = connection_at inputs outputs ended at;
  done = take ended outputs;
}

-- the input of the connection at a place is read up to there
abbrev pub IsReadTo : List (List ℕ) → ℕ → Option ℕ → Type 0
IsReadTo inputs place None = Unit {0}
IsReadTo inputs place (Some at) = at ≤ length (slice_index_or inputs place [])
