use Rattle.std.proofs.Common.{◌∙◌, true, false, ap}
use Rattle.std.specs.Prelude.{codes}
use Rattle.std.specs.Str.{chars}
use Rattle.model.specs.Fields.{same_name}
use Rattle.schema_edit.proofs.Steps.{first_is, name_text, own_child_first, own_child_later, type_text}
use Rattle.schema_edit.proofs.judging.fields.is_own_child.Goals as goal

pub returns-in-Some : goal.returns-in-Some
returns-in-Some c =
    let first = first_is c.args.number c.args.target c.args.new.now.members (chars (codes "type")) (chars (codes "name")) (codes "type") (codes "name") true type_text name_text c.if-comes_first.ensures in
    c.same_name.ensures
    ∙ ap (same_name (chars c.args.name.now)) c.as_str.ensures.characters
    ∙ own_child_first c.args.number c.args.target c.args.new.now (chars c.args.name.now) c.in-Some.child.now c.in-Some.ensures first

pub returns-else-comes_first : goal.returns-else-comes_first
returns-else-comes_first c =
    let first = first_is c.args.number c.args.target c.args.new.now.members (chars (codes "type")) (chars (codes "name")) (codes "type") (codes "name") false type_text name_text c.if-comes_first.ensures in
    own_child_later c.args.number c.args.target c.args.new.now (chars c.args.name.now) first
