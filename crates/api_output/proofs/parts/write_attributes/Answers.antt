use Rattle.std.proofs.Common.{◌∙◌}
use Rattle.std.specs.Str.{chars}
use Rattle.api_output.proofs.Written.{attributes_written, on_ok}
use Rattle.api_output.proofs.parts.write_attributes.Goals as goal

pub returns : goal.returns
returns c =
    on_ok c.write_mark-3.result _ _
    (attributes_written c.args.writer.now c.write_name.new.writer c.write_mark.new.writer c.write_text_member.new.writer c.write_mark-2.new.writer c.write_text_member-2.new.writer c.write_mark-3.new.writer
    (chars c.args.object.now) c.args.id.now (chars c.as_str.result.now) (c.as_str.ensures.characters ∙ c.in_ok-address.ensures)
    c.in_ok-write_name.ensures c.in_ok-write_mark.ensures c.in_ok-write_text_member.ensures c.in_ok-write_mark-2.ensures c.in_ok-write_text_member-2.ensures) c.write_mark-3.ensures
