use Rattle.std.specs.Prelude.{codes}
use Rattle.std.specs.Str.{chars}
use Rattle.base_json.specs.Printing.{printed_text}
use Rattle.api_output.proofs.Written.{after, on_ok}
use Rattle.api_output.proofs.parts.write_name.Goals as goal

pub returns : goal.returns
returns c =
    on_ok c.write_mark.result _ _
    (λ e. after c.args.writer.now c.write_text.new.writer c.write_mark.new.writer (printed_text (chars c.args.name.now)) (codes ":") c.in_ok-write_text.ensures e) c.write_mark.ensures
