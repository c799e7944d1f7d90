-- A sink whose line feeds are counted as bytes are written.
use Rattle.std.specs.Prelude.{◌≡◌, ◌+◌, List, ◌++◌, Option, take, ℕ}
use Rattle.std.specs.Io.KnownBytes.{Appends}
use Rattle.base_value.specs.Causes.{up_to_last}
use Rattle.cli_notes.specs.Written.{first_room, line_feeds}
use Rattle.cli_notes.specs.declared.counted_sink.CountedSink.{CountedSink}

abbrev pub inner_sink : {R W : Type 0} → CountedSink R W → W
inner_sink s = s.sink

-- the line feeds that were counted: the count saturates
abbrev pub counted_lines : {R W : Type 0} → CountedSink R W → ℕ
counted_lines s = s.lines

-- the first bytes that were written
abbrev pub first_bytes : {R W : Type 0} → CountedSink R W → List ℕ
first_bytes s = s.front

-- What writes leave of what was written, of the count and of the first bytes: just the bytes that were written were counted,
-- where the sink tells them.
pub record CountGoesOn (written written2 : Option (List ℕ)) (lines lines2 : ℕ) (front front2 : List ℕ) : Type 0 where
  pub bytes : List ℕ
  pub appended : Appends written written2 bytes
  pub counted : up_to_last lines2 ≡ up_to_last (lines + line_feeds bytes)
  pub seen : take first_room front2 ≡ take first_room (front ++ bytes)
