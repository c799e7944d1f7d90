use Rattle.std.specs.Str.{chars}
use Rattle.base_json.specs.Printing.{printed_text}
use Rattle.api_output.proofs.Written.{member, on_ok}
use Rattle.api_output.proofs.parts.write_text_member.Goals as goal

pub returns : goal.returns
returns c =
    on_ok c.write_text.result _ _
    (λ e. member c.args.writer.now c.write_name.new.writer c.write_text.new.writer (chars c.args.name.now) (printed_text (chars c.args.text.now)) c.in_ok-write_name.ensures e) c.write_text.ensures
