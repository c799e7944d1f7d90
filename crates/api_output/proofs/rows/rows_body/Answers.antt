use Rattle.std.proofs.Common.{◌∙◌, ◌++◌, List, ap, ℕ}
use Rattle.std.specs.Prelude.{codes}
use Rattle.std.specs.Str.{encode_utf8_all}
use Rattle.api_output.specs.Rows.{rows_front}
use Rattle.api_output.proofs.Bodies.{body_of_rows}
use Rattle.api_output.proofs.rows.rows_body.Goals as goal

pub returns : goal.returns
returns c texts count are =
    body_of_rows c.write_rows_start.new.writer c.args.rows.now c.from_vec.result c.args.count texts count
    (c.in_ok-write_rows_start.ensures ∙ ap (λ (w : List ℕ). w ++ encode_utf8_all (rows_front c.args.count)) c.new-front.ensures)
    are
    (c.from_vec.ensures ∙ c.in_ok-extend_from_slice-2.ensures.items
    ∙ ap (λ (w : List ℕ). w ++ codes "]}") (c.in_ok-extend_from_slice.ensures.items
    ∙ ap (λ (w : List ℕ). w ++ c.without_first.result.now) (c.into_vec-body.ensures ∙ c.finish.ensures) ∙ ap (λ (w : List ℕ). c.write_rows_start.new.writer ++ w) c.without_first.ensures))
