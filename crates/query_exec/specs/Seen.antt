-- The record that a row spells, and what is given of it.
use Rattle.std.specs.Prelude.{◌≡◌, Option, Some, Result, Ok, Err}
use Rattle.store_codec.specs.declared.fail.CodecFail.{CodecFail}
use Rattle.store_codec.specs.declared.fail.CodecFail.TheVariants.{Damaged, Memory}
use Rattle.record_read.specs.Decoding.{record_from}
use Rattle.model.specs.declared.record.Record.{Record}
use Rattle.query_exec.specs.declared.seen.SeenRecord.{SeenRecord}

-- the record that is seen in its row, if the row spells one
abbrev pub seen_record : SeenRecord → Option Record
seen_record s = record_from s.layout.now s.row

-- this record is seen
abbrev pub Sees : Record → Result SeenRecord CodecFail → Type 0
Sees r (Ok s) = seen_record s ≡ Some r
Sees r (Err Damaged) = ⊥
Sees r (Err Memory) = Unit {0}
