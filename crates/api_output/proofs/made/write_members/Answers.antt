use Rattle.std.proofs.Common.{◌∙◌}
use Rattle.std.specs.Str.{chars}
use Rattle.api_output.proofs.Written.{made_written, on_ok}
use Rattle.api_output.proofs.made.write_members.Goals as goal

pub returns : goal.returns
returns c =
    on_ok c.write_no_errors.result _ _
    (made_written c.args.writer.now c.write_text_member.new.writer c.write_mark.new.writer c.write_truth_member.new.writer c.write_mark-2.new.writer c.write_no_errors.new.writer
    c.args.id.now (chars c.as_str.result.now) (c.as_str.ensures.characters ∙ c.in_ok-id.ensures)
    c.in_ok-write_text_member.ensures c.in_ok-write_mark.ensures c.in_ok-write_truth_member.ensures c.in_ok-write_mark-2.ensures) c.write_no_errors.ensures
