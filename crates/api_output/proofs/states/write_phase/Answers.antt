use Rattle.std.proofs.Common.{List, ℕ, subst}
use Rattle.std.specs.Prelude.{codes}
use Rattle.std.specs.Str.{chars}
use Rattle.base_json.specs.Printing.{printed_text}
use Rattle.model.specs.RowsJson.{member_json}
use Rattle.api_output.specs.inner.Parts.{Wrote}
use Rattle.api_output.proofs.states.write_phase.Goals as goal

pub returns : goal.returns
unfolding chars
returns c =
    subst (λ (name : List ℕ). Wrote c.write_text_member.result c.args.writer.now c.write_text_member.new.writer (member_json (codes "phase") (printed_text name)))
    c.phase_name.ensures c.write_text_member.ensures
