use Rattle.std.proofs.Common.{◌++◌, ◌∙◌, List, ap, ℕ}
use Rattle.std.specs.Prelude.{codes}
use Rattle.std.specs.Str.{encode_utf8_all}
use Rattle.api_output.specs.Rows.{row_front}
use Rattle.api_output.proofs.Beginning.{begun}
use Rattle.api_output.proofs.fronts.RowFront.put.Goals as goal

pub returns : goal.returns
returns c =
    let out = c.args.out.now.items in
    let front = c.as_slice.result.now in
    begun c.args.self.now c.args.id.now front out c.extend_from_slice-3.new.self.items c.as_bytes.ensures.id
    (c.as_slice.ensures ∙ c.self.invariant ∙ ap (λ (object : List ℕ). encode_utf8_all (row_front object)) c.self.view_is)
    (c.in_ok-extend_from_slice-3.ensures.items ∙ ap (λ (w : List ℕ). w ++ codes "\"}") (c.in_ok-extend_from_slice-2.ensures.items
    ∙ ap (λ (w : List ℕ). w ++ c.print18.result) c.in_ok-extend_from_slice.ensures.items ∙ ap (λ (text : List ℕ). (out ++ front) ++ text) c.print18.ensures))
