use Rattle.std.proofs.Common.{◌≡◌, Some, drop}
use Rattle.query_plan.specs.Shown.{shown_text}
use Rattle.model.specs.declared.record.Record.{Record}
use Rattle.query_json.specs.row.Shows.{shows}
use Rattle.query_json.proofs.Pieces.{with_rest}
use Rattle.query_json.proofs.row.rows.write_parts.Given as goal

abbrev pub invariant-shown : goal.invariant-shown
invariant-shown g l = (r : Record) → g.V.HasValues.its_record l.item ≡ Some r
    → with_rest (shown_text shows l.parents l.children r) l.writer (drop l.part-index l.shown) ≡ with_rest (shown_text shows l.parents l.children r) l.fn.writer l.shown
