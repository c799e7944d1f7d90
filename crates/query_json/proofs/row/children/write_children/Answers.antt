use Rattle.std.proofs.Common.{◌∙◌, sym}
use Rattle.std.specs.Str.{chars}
use Rattle.query_plan.specs.Shown.{child_text}
use Rattle.query_json.specs.row.Shows.{shows}
use Rattle.query_json.proofs.Pieces.{some_children}
use Rattle.query_json.proofs.row.children.write_children.Goals as goal

pub returns : goal.returns
returns c =
    some_children (child_text shows (chars c.args.object.now) c.args.members.now)
    c.args.writer.now c.write_rows_start.new.writer c.write_joined.new.writer c.write_rows_end.new.writer c.args.children.now
    (sym c.is_empty.ensures ∙ c.if-is_empty.false) c.in_ok-write_rows_start.ensures c.in_ok-write_joined.ensures c.in_ok-write_rows_end.ensures
