use Rattle.std.proofs.Common.{◌≡◌, map}
use Rattle.std.specs.List.{range_with_len}
use Rattle.std.specs.Option.{option_map}
use Rattle.record_read.specs.Encoding.{text_of_slot}
use Rattle.store_rows.specs.declared.data.DataRow.{DataRow}
use Rattle.record_read.proofs.encoding.texts_of.Given as goal

abbrev pub invariant-loop-slot : goal.invariant-loop-slot
invariant-loop-slot l = l.texts.items ≡ map (text_of_slot l.layout l.item (option_map {U = DataRow} (λ row. row.now) l.kept)) (range_with_len 0 l.slot)
