use Rattle.std.proofs.Common.{◌++◌, ◌-◌, ◌∙◌, List, ap, sym, take, ℕ}
use Rattle.std.specs.Prelude.{codes}
use Rattle.std.specs.Str.{chars, encode_utf8_all}
use Rattle.api_output.specs.Rows.{row_front}
use Rattle.api_output.proofs.Beginning.{without_mark}
use Rattle.api_output.proofs.fronts.RowFront.new.Goals as goal

pub invariant_of-result : goal.invariant_of-result
invariant_of-result c =
    let front = row_front (chars c.args.object.now) in
    c.from_vec.ensures
    ∙ without_mark front c.into_vec-bytes.result.items c.pop.new.self.items
    (c.into_vec-bytes.ensures ∙ c.finish.ensures ∙ c.in_ok-write_front.ensures ∙ ap (λ (w : List ℕ). w ++ encode_utf8_all (front ++ codes "\"")) c.new-writer.ensures)
    (c.pop.ensures.rest ∙ ap (λ (n : ℕ). take (n - 1) c.into_vec-bytes.result.items) c.into_vec-bytes.result.ok.0)
    ∙ ap (λ (object : List ℕ). encode_utf8_all (row_front object)) (sym c.in_ok-object.ensures)
