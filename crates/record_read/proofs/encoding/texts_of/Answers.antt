use Rattle.std.proofs.Common.{◌≡◌, ◌∙◌, ap, map, arith, ℕ}
use Rattle.std.specs.List.{range_with_len}
use Rattle.std.specs.Option.{option_map}
use Rattle.record_read.specs.Encoding.{text_of_slot, texts_of_slots}
use Rattle.store_rows.specs.declared.data.DataRow.{DataRow}
use Rattle.record_read.proofs.Loops.{texts_go_on}
use Rattle.record_read.proofs.encoding.texts_of.Goals as goal

pub loop-slot-preserved : goal.loop-slot-preserved
loop-slot-preserved c =
    texts_go_on (text_of_slot c.args.layout.now c.args.item.now (option_map {U = DataRow} (λ row. row.now) c.args.kept)) c.loop-slot.slot c.loop-slot.texts.items c.push.new.self.items c.in_ok-text_of_slot.field-0
    c.loop-slot.invariant c.in_ok-text_of_slot.ensures c.in_ok-push.ensures.items

pub returns : goal.returns
unfolding texts_of_slots
returns c =
    let all : c.loop-slot.slot ≡ 48 = omega (arith, c.loop-slot-test.false, c.loop-slot.auto.slot-end) in
    c.loop-slot.invariant ∙ ap (λ (n : ℕ). map (text_of_slot c.args.layout.now c.args.item.now (option_map {U = DataRow} (λ row. row.now) c.args.kept)) (range_with_len 0 n)) all
