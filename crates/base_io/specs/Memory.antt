-- What the objects in memory hold, and what their calls return and leave.
use Rattle.std.specs.Prelude.{ℕ, ◌+◌, ◌-◌, ◌==◌, ◌&&◌, ◌||◌, not, min, Bool, if◌then◌else◌, List, ◌++◌, length, take, drop, Option, None, Some, Result, Ok, Err}
use Rattle.std.specs.List.{list_any}
use Rattle.std.specs.Option.{is_some}
use Rattle.base_value.specs.Causes.{up_to_last}
use Rattle.base_io.specs.declared.traits.IoFail.{IoFail}
use Rattle.base_io.specs.Doors.{Connection, DoorState, after_next, has_next, input_left, output_so_far, with_input, with_output}

-- whether the call after n others is one that fails; calls are numbered from 1
abbrev pub fails_next : ℕ → List ℕ → Bool
fails_next made failing = list_any (λ n. n == up_to_last (made + 1)) failing

-- ---- a source

-- the bytes left, the calls made, the numbers of those that fail, and how many have failed
pub record Input : Type 0 where
  pub left : List ℕ
  pub calls : ℕ
  pub failing : List ℕ
  pub faults : ℕ

-- one call more, which fails
abbrev pub source_fault : Input → Input
source_fault s = record s { calls = up_to_last (s.calls + 1); faults = up_to_last (s.faults + 1) }

-- a read into a piece of this size
abbrev pub read_answer : Input → ℕ → Result ℕ IoFail
read_answer s size =
    if fails_next s.calls s.failing then Err (record {}) else Ok (min size (length s.left))

abbrev pub after_read : Input → ℕ → Input
after_read s size =
    if fails_next s.calls s.failing then source_fault s
    else record s { left = drop (min size (length s.left)) s.left; calls = up_to_last (s.calls + 1) }

-- ---- a sink

-- the bytes written, how many it has room for in all, and its calls as of a source
pub record Output : Type 0 where
  pub written : List ℕ
  pub room : ℕ
  pub calls : ℕ
  pub failing : List ℕ
  pub faults : ℕ

-- one call more, which fails
abbrev pub sink_fault : Output → Output
sink_fault s = record s { calls = up_to_last (s.calls + 1); faults = up_to_last (s.faults + 1) }

-- how many bytes of a piece are taken
abbrev pub taken : List ℕ → ℕ → List ℕ → ℕ
taken written room piece = min (length piece) (room - length written)

-- nothing is taken of a piece that isn't empty
abbrev pub takes_none : ℕ → List ℕ → Bool
takes_none count piece = (count == 0) && not (length piece == 0)

abbrev pub write_fails : Output → List ℕ → Bool
write_fails s piece = fails_next s.calls s.failing || takes_none (taken s.written s.room piece) piece

abbrev pub write_answer : Output → List ℕ → Result ℕ IoFail
write_answer s piece =
    if write_fails s piece then Err (record {}) else Ok (taken s.written s.room piece)

abbrev pub after_write : Output → List ℕ → Output
after_write s piece =
    if write_fails s piece then sink_fault s else record s {
      written = s.written ++ take (taken s.written s.room piece) piece;
      calls = up_to_last (s.calls + 1);
    }

-- ---- a door

-- what it holds, how many bytes the output of each connection has room for, and its calls, whose faults are of two kinds
pub record Entrance : Type 0 where
  pub held : DoorState
  pub room : ℕ
  pub calls : ℕ
  pub failing : List ℕ
  pub faults : ℕ
  pub line_faults : ℕ

abbrev pub door_fails : Entrance → Bool
door_fails d = fails_next d.calls d.failing

-- one call more, which fails as a call of the door, or as a call of a line
abbrev pub door_fault : Entrance → Entrance
door_fault d = record d { calls = up_to_last (d.calls + 1); faults = up_to_last (d.faults + 1) }

abbrev pub line_fault : Entrance → Entrance
line_fault d =
    record d { calls = up_to_last (d.calls + 1); line_faults = up_to_last (d.line_faults + 1) }

-- one call more, which leaves this
abbrev pub door_call : Entrance → DoorState → Entrance
door_call d held = record d { held = held; calls = up_to_last (d.calls + 1) }

abbrev pub open_answer : Entrance → Result (Unit {0}) IoFail
open_answer d = if door_fails d then Err (record {}) else Ok tt

abbrev pub after_open : Entrance → Entrance
after_open d = if door_fails d then door_fault d else door_call d d.held

abbrev pub next_answer : Entrance → Result Bool IoFail
next_answer d = if door_fails d then Err (record {}) else Ok (has_next d.held.coming)

abbrev pub after_next_call : Entrance → Entrance
after_next_call d = if door_fails d then door_fault d else door_call d (after_next d.held)

-- a read without a connection doesn't fail
abbrev pub line_read_fails : Entrance → Bool
line_read_fails d = is_some d.held.present && door_fails d

-- how many bytes a read into a piece of this size gives
abbrev pub line_gives : Option Connection → ℕ → ℕ
line_gives present size = min size (length (input_left present))

abbrev pub line_read_answer : Entrance → ℕ → Result ℕ IoFail
line_read_answer d size =
    if line_read_fails d then Err (record {}) else Ok (line_gives d.held.present size)

-- a door after bytes of the present connection were read, or written to it
abbrev pub with_read : DoorState → ℕ → DoorState
with_read d count = record d { present = with_input d.present (drop count (input_left d.present)) }

abbrev pub with_written : DoorState → List ℕ → DoorState
with_written d bytes = record d { present = with_output d.present (output_so_far d.present ++ bytes) }

abbrev pub after_line_read : Entrance → ℕ → Entrance
after_line_read d size =
    if line_read_fails d then line_fault d
    else door_call d (with_read d.held (line_gives d.held.present size))

-- how many bytes of a piece the present connection takes
abbrev pub line_takes : Option Connection → ℕ → List ℕ → ℕ
line_takes None room piece = 0
line_takes (Some c) room piece = taken c.output room piece

abbrev pub line_write_fails : Entrance → List ℕ → Bool
line_write_fails d piece = door_fails d || takes_none (line_takes d.held.present d.room piece) piece

abbrev pub line_write_answer : Entrance → List ℕ → Result ℕ IoFail
line_write_answer d piece =
    if line_write_fails d piece then Err (record {}) else Ok (line_takes d.held.present d.room piece)

abbrev pub after_line_write : Entrance → List ℕ → Entrance
after_line_write d piece =
    if line_write_fails d piece then line_fault d
    else door_call d (with_written d.held (take (line_takes d.held.present d.room piece) piece))
