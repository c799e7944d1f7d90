use Rattle.std.proofs.Common.{◌∷◌, ◌++◌, ◌∙◌, List, ℕ, ap, map}
use Rattle.std.specs.Str.{encode_utf8_all}
use Rattle.query_plan.specs.Shown.{shown_text}
use Rattle.api_output.specs.Rows.{attributes_member}
use Rattle.query_json.specs.row.Shows.{shows}
use Rattle.query_json.proofs.Pieces.{row_appended}
use Rattle.query_json.proofs.row.rows.write_row.Goals as goal

pub returns : goal.returns
returns g c r is same =
    let text = shown_text shows c.args.parents.now c.args.children.now r in
    row_appended c.args.out.now.items c.put.new.out.items c.new-writer.result c.write_parts.new.writer c.write_row_end.new.writer c.extend_from_slice.new.self.items (attributes_member c.args.front.now r.id) (map text c.args.shown.now)
    (c.in_ok-put.ensures ∙ ap (λ (i : List ℕ). c.args.out.now.items ++ encode_utf8_all (44 ∷ 123 ∷ attributes_member c.args.front.now i)) same)
    c.new-writer.ensures (c.in_ok-write_parts.ensures r is) c.in_ok-write_row_end.ensures
    (c.in_ok-extend_from_slice.ensures.items ∙ ap (λ (w : List ℕ). c.put.new.out.items ++ w) (c.as_slice-2.ensures ∙ c.finish.ensures))
