use Rattle.std.proofs.Common.{[], ◌∷◌, ◌++◌, ◌∙◌, Option, ap, sym}
use Rattle.std.specs.Option.{option_copied}
use Rattle.std.specs.Prelude.{codes}
use Rattle.std.specs.Str.{chars, encode_utf8_all}
use Rattle.base_json.specs.Printing.{printed_null, printed_text}
use Rattle.model.specs.Cases.{in_case}
use Rattle.model.specs.RowsJson.{member_json}
use Rattle.model.specs.declared.record.Record.{Record}
use Rattle.api_output.proofs.Written.{after, on_ok}
use Rattle.query_json.proofs.row.members.write_end.Goals as goal

pub returns-in-None : goal.returns-in-None
returns-in-None c =
    let name = chars c.args.name.now in
    on_ok c.write_null.result _ _
    (λ e. after c.args.writer.now c.write_member_start.new.writer c.write_null.new.writer (44 ∷ (printed_text name ++ codes ":")) printed_null c.in_ok-write_member_start.ensures e
    ∙ ap (λ (o : Option Record). c.args.writer.now ++ encode_utf8_all (44 ∷ member_json name (in_case o printed_null (λ p. [])))) (sym (ap option_copied c.in-None.is) ∙ c.record_at.ensures))
    c.write_null.ensures
