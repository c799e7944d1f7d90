use Rattle.std.specs.Prelude.{codes}
use Rattle.std.specs.Str.{chars}
use Rattle.base_json.specs.Printing.{printed_text}
use Rattle.model.specs.RowsJson.{member_json}
use Rattle.api_output.proofs.Changing.{two}
use Rattle.api_output.proofs.Written.{on_ok}
use Rattle.api_output.proofs.states.write_place.Goals as goal

pub returns : goal.returns
unfolding chars
returns c =
    on_ok c.write_text_member-2.result _ _
    (two c.args.writer.now c.write_text_member.new.writer c.write_mark.new.writer c.write_text_member-2.new.writer
    (member_json (codes "object") (printed_text (chars c.args.object.now))) (member_json (codes "field") (printed_text (chars c.args.field.now)))
    c.in_ok-write_text_member.ensures c.in_ok-write_mark.ensures) c.write_text_member-2.ensures
