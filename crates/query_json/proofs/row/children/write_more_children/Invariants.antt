use Rattle.std.proofs.Common.{◌≡◌, drop}
use Rattle.std.specs.Str.{chars}
use Rattle.query_plan.specs.Shown.{child_text}
use Rattle.query_json.specs.row.Shows.{shows}
use Rattle.query_json.proofs.Pieces.{with_rest}
use Rattle.query_json.proofs.row.children.write_more_children.Given as goal

abbrev pub invariant-children : goal.invariant-children
invariant-children l =
    with_rest (child_text shows (chars l.object) l.members) l.writer (drop l.child-index l.children) ≡ with_rest (child_text shows (chars l.object) l.members) l.fn.writer l.children
