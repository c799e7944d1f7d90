use Rattle.std.proofs.Common.{[], ◌∷◌, ◌++◌, ◌∙◌, List, Option, ap, map, refl}
use Rattle.std.specs.Str.{chars, encode_utf8_all}
use Rattle.query_plan.specs.Shown.{child_text, member_text}
use Rattle.model.specs.declared.record.Record.{Record}
use Rattle.api_output.specs.Rows.{attributes_member, behind_commas}
use Rattle.query_json.specs.row.Shows.{shows}
use Rattle.query_json.proofs.Pieces.{puts_failed, record_written}
use Rattle.query_json.proofs.row.children.write_child.Goals as goal

pub returns-in_err-write_members : goal.returns-in_err-write_members
returns-in_err-write_members c =
    let child = c.args.child.now in
    let members = c.args.members.now in
    puts_failed (encode_utf8_all (behind_commas (map (member_text shows c.as_slice.result.now child.record) members))) (encode_utf8_all (child_text shows (chars c.args.object.now) members child))
    c.write_record_start.new.writer c.write_members.new.writer c.args.writer.now c.write_members.new.writer c.from_residual-in_err-write_members.result c.in_err-write_members.field-0.0
    c.from_residual-in_err-write_members.ensures.1 (c.in_err-write_members.ensures child.record refl)

pub returns : goal.returns
returns c =
    let child = c.args.child.now in
    let texts = λ (parents : List (Option Record)). map (member_text shows parents child.record) c.args.members.now in
    record_written c.args.writer.now c.write_record_start.new.writer c.write_members.new.writer c.write_row_end.new.writer (123 ∷ [])
    (attributes_member (chars c.args.object.now) child.record.id) (texts child.parents) c.in_ok-write_record_start.ensures
    (c.in_ok-write_members.ensures child.record refl ∙ ap (λ (parents : List (Option Record)). c.write_record_start.new.writer ++ encode_utf8_all (behind_commas (texts parents))) c.as_slice.ensures)
    c.in_ok-write_row_end.ensures
