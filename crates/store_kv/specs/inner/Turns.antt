-- Which of two lists in order goes on. No public contract reaches this word.
use Rattle.std.specs.Prelude.{Option, Some, None}
use Rattle.std.specs.Ordering.{match_ordering}
use Rattle.store_kv.specs.declared.keeper.KeptRow.{KeptRow}
use Rattle.store_kv.specs.declared.merge.Turn.{Turn}
use Rattle.store_kv.specs.declared.merge.Turn.TheVariants.{Over, Row, Both, Entry}
use Rattle.store_kv.specs.Tables.{bytes_cmp}
use Rattle.store_kv.specs.Laid as laid

-- the list whose key is lower, or both where the keys are the same
abbrev pub next_turn : Option KeptRow → Option laid.Entry → Turn
next_turn None None = Over
next_turn (Some r) None = Row
next_turn None (Some e) = Entry
next_turn (Some r) (Some e) = match_ordering (bytes_cmp r.key e.0.1) Row Both Entry
