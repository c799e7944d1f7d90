use Rattle.std.proofs.Common.{◌≡◌, ◌++◌, ◌∙◌, ap, arith, sym}
use Rattle.std.proofs.lemmas.Result.{on_ok_weaker as on_ok}
use Rattle.std.specs.Str.{chars, encode_utf8_all}
use Rattle.base_json.specs.Whole.{printed, printed_member}
use Rattle.base_json_tree.specs.inner.Printed.{items_at, members_at}
use Rattle.base_json_tree.proofs.Pieces.{enclosed, items_within, list_written, member_written, members_within, nothing, null_written, num_written, object_written, text_written, truth_written, turn}
use Rattle.base_json_tree.proofs.printing.+values.Goals as goal
use Rattle.base_json_tree.proofs.printing.+values.Goals.{write_list-then-levels-gt0+in_ok-write_items, write_list-else-levels-gt0, write_object-then-levels-gt0+in_ok-write_members, write_object-else-levels-gt0}

pub write_items-loop-place-preserved : goal.write_items-loop-place-preserved
write_items-loop-place-preserved t c =
    turn (printed c.args.levels) c.args.items.now c.loop-place.place c.index-items-place.result c.args.writer.now c.loop-place.writer c.write_comma.new.writer c.write_value.new.writer
    c.loop-place-test.true c.index-items-place.is c.loop-place.invariant c.in_ok-write_comma.ensures c.in_ok-write_value.ensures

pub write_members-loop-place-preserved : goal.write_members-loop-place-preserved
write_members-loop-place-preserved t c =
    turn (printed_member (printed c.args.levels)) c.args.members.now c.loop-place.place c.index-members-place.result c.args.writer.now c.loop-place.writer c.write_comma.new.writer c.write_member.new.writer
    c.loop-place-test.true c.index-members-place.is c.loop-place.invariant c.in_ok-write_comma.ensures c.in_ok-write_member.ensures

pub write_list-returns : goal.write_list-returns
write_list-returns t c =
    let w1 = c.write_mark.new.writer in
    let items = c.args.items.now in
    let inside : c.if-levels-gt0.writer ≡ w1 ++ encode_utf8_all (items_at c.args.levels items) = elim c.if-levels-gt0.branch [
      | write_list-then-levels-gt0+in_ok-write_items w ↦
          w.writer-is ∙ w.in_ok-write_items.ensures ∙ ap (λ t. w1 ++ encode_utf8_all t) (items_within c.args.levels items (omega arith))
      | write_list-else-levels-gt0 w ↦
          let none : c.args.levels ≡ 0 = omega arith in
          w.writer-is ∙ nothing w1 ∙ ap (λ n. w1 ++ encode_utf8_all (items_at n items)) (sym none)
    ] in
    on_ok c.write_mark-2.result
    (enclosed c.args.writer.now w1 c.if-levels-gt0.writer c.write_mark-2.new.writer (items_at c.args.levels items) 91 93 c.in_ok-write_mark.ensures inside) c.write_mark-2.ensures

pub write_object-returns : goal.write_object-returns
write_object-returns t c =
    let w1 = c.write_mark.new.writer in
    let members = c.args.members.now in
    let inside : c.if-levels-gt0.writer ≡ w1 ++ encode_utf8_all (members_at c.args.levels members) = elim c.if-levels-gt0.branch [
      | write_object-then-levels-gt0+in_ok-write_members w ↦
          w.writer-is ∙ w.in_ok-write_members.ensures ∙ ap (λ t. w1 ++ encode_utf8_all t) (members_within c.args.levels members (omega arith))
      | write_object-else-levels-gt0 w ↦
          let none : c.args.levels ≡ 0 = omega arith in
          w.writer-is ∙ nothing w1 ∙ ap (λ n. w1 ++ encode_utf8_all (members_at n members)) (sym none)
    ] in
    on_ok c.write_mark-2.result
    (enclosed c.args.writer.now w1 c.if-levels-gt0.writer c.write_mark-2.new.writer (members_at c.args.levels members) 123 125 c.in_ok-write_mark.ensures inside) c.write_mark-2.ensures

pub write_member-returns : goal.write_member-returns
write_member-returns t c =
    on_ok c.write_value.result
    (member_written c.args.writer.now c.write_name.new.writer c.write_value.new.writer c.args.member.now.name (chars c.as_str.result.now) (printed c.args.levels c.args.member.now.value)
    c.as_str.ensures.characters c.in_ok-write_name.ensures) c.write_value.ensures

pub write_value-returns-in-Null : goal.write_value-returns-in-Null
write_value-returns-in-Null t c =
    on_ok c.null.result (null_written c.args.levels c.args.value.now c.args.writer.now c.null.new.self c.in-Null.is) c.null.ensures.ok

pub write_value-returns-in-Bool : goal.write_value-returns-in-Bool
write_value-returns-in-Bool t c =
    on_ok c.truth.result (truth_written c.args.levels c.args.value.now c.args.writer.now c.truth.new.self c.in-Bool.truth c.in-Bool.is) c.truth.ensures.ok

pub write_value-returns-in-Number : goal.write_value-returns-in-Number
write_value-returns-in-Number t c =
    on_ok c.write_number.result (num_written c.args.levels c.args.value.now c.args.writer.now c.write_number.new.writer c.in-Number.number c.in-Number.is) c.write_number.ensures

pub write_value-returns-in-Text : goal.write_value-returns-in-Text
write_value-returns-in-Text t c =
    on_ok c.text.result
    (text_written c.args.levels c.args.value.now c.args.writer.now c.text.new.self (chars c.as_str.result.now) c.in-Text.text c.in-Text.is c.as_str.ensures.characters) c.text.ensures.ok

pub write_value-returns-in-List : goal.write_value-returns-in-List
write_value-returns-in-List t c =
    on_ok c.write_list.result
    (list_written c.args.levels c.args.value.now c.args.writer.now c.write_list.new.writer c.as_slice.result.now c.in-List.items c.in-List.is c.as_slice.ensures) c.write_list.ensures

pub write_value-returns-in-Object : goal.write_value-returns-in-Object
write_value-returns-in-Object t c =
    on_ok c.write_object.result
    (object_written c.args.levels c.args.value.now c.args.writer.now c.write_object.new.writer c.as_slice-in-Object.result.now c.in-Object.members c.in-Object.is c.as_slice-in-Object.ensures) c.write_object.ensures
