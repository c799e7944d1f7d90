use Rattle.std.specs.Prelude.{codes}
use Rattle.std.proofs.Common.{◌∷◌, ◌++◌}
use Rattle.std.specs.Str.{chars}
use Rattle.base_json.specs.Printing.{printed_text}
use Rattle.model.specs.RowsJson.{value_json}
use Rattle.api_output.proofs.Written.{after, on_ok}
use Rattle.api_output.proofs.rows.write_shown.Goals as goal

pub returns : goal.returns
returns c =
    on_ok c.write_value.result _ _
    (after c.args.writer.now c.write_member_start.new.writer c.write_value.new.writer (44 ∷ (printed_text (chars c.args.name.now) ++ codes ":")) (value_json c.args.value.now)
    c.in_ok-write_member_start.ensures) c.write_value.ensures
