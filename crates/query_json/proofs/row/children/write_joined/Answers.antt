use Rattle.std.specs.Str.{chars}
use Rattle.query_plan.specs.Shown.{child_text}
use Rattle.query_json.specs.row.Shows.{shows}
use Rattle.query_json.proofs.Pieces.{first_and_more, none_joined}
use Rattle.query_json.proofs.row.children.write_joined.Goals as goal

pub returns-in-None : goal.returns-in-None
returns-in-None c = none_joined (child_text shows (chars c.args.object.now) c.args.members.now) c.args.writer.now c.args.children.now c.in-None.ensures.cases

pub returns-in_ok-write_child-in-Some : goal.returns-in_ok-write_child-in-Some
returns-in_ok-write_child-in-Some c =
    first_and_more (child_text shows (chars c.args.object.now) c.args.members.now) c.args.writer.now c.write_child.new.writer c.write_more_children.new.writer
    c.in-Some.first.now c.in-Some.rest.now c.args.children.now c.write_more_children.result c.in-Some.ensures.cases.0 c.in_ok-write_child-in-Some.ensures c.write_more_children.ensures
