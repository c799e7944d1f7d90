use Rattle.std.proofs.Common.{◌∙◌, List, Option, ℕ, subst, sym}
use Rattle.base_json.specs.Printing.{printed_text}
use Rattle.api_output.specs.inner.Parts.{Wrote}
use Rattle.api_output.specs.inner.States.{record_json}
use Rattle.api_output.proofs.states.write_id.Goals as goal

pub returns-in_ok-text-in-Some : goal.returns-in_ok-text-in-Some
returns-in_ok-text-in-Some c =
    subst (λ (r : Option (List ℕ)). Wrote c.write_text.result c.args.writer.now c.write_text.new.writer (record_json r)) (sym c.in-Some.is)
    (subst (λ (text : List ℕ). Wrote c.write_text.result c.args.writer.now c.write_text.new.writer (printed_text text)) (c.as_str.ensures.characters ∙ c.in_ok-text-in-Some.ensures) c.write_text.ensures)
