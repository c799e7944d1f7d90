use Rattle.std.proofs.Common.{◌++◌, ◌∙◌, List, ap, ℕ}
use Rattle.std.specs.Prelude.{codes}
use Rattle.std.specs.Str.{chars, encode_utf8_all}
use Rattle.base_json.specs.Printing.{printed_text}
use Rattle.model.specs.RowsJson.{member_json}
use Rattle.api_output.proofs.Beginning.{front_written}
use Rattle.api_output.proofs.Written.{on_ok}
use Rattle.api_output.proofs.fronts.write_front.Goals as goal

pub returns : goal.returns
returns c =
    on_ok c.write_text_member-2.result _ _
    (λ e. front_written (chars c.args.object.now) c.args.writer.now c.write_mark.new.writer c.write_mark-2.new.writer c.write_name.new.writer c.write_mark-3.new.writer c.write_text_member.new.writer c.write_mark-4.new.writer c.write_text_member-2.new.writer
    c.in_ok-write_mark.ensures c.in_ok-write_mark-2.ensures c.in_ok-write_name.ensures c.in_ok-write_mark-3.ensures c.in_ok-write_text_member.ensures c.in_ok-write_mark-4.ensures
    (e ∙ ap (λ (t : List ℕ). c.write_mark-4.new.writer ++ encode_utf8_all (member_json (chars (codes "url")) (printed_text t))) (ap chars c.as_str.ensures.value ∙ c.in_ok-addresses.ensures))) c.write_text_member-2.ensures
