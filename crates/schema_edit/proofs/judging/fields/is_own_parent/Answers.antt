use Rattle.std.proofs.Common.{◌∙◌, true, false, ap}
use Rattle.std.specs.Prelude.{codes}
use Rattle.std.specs.Str.{chars}
use Rattle.model.specs.Fields.{same_name}
use Rattle.model.specs.Relationships.{parent_name}
use Rattle.schema_edit.proofs.Steps.{first_is, name_text, own_parent_first, own_parent_later, type_text}
use Rattle.schema_edit.proofs.judging.fields.is_own_parent.Goals as goal

pub returns-in_ok-parent : goal.returns-in_ok-parent
returns-in_ok-parent c =
    let first = first_is c.args.number c.args.target c.args.new.now.members (chars (codes "name")) (chars (codes "type")) (codes "name") (codes "type") true name_text type_text c.if-comes_first.ensures in
    c.same_name.ensures
    ∙ ap (same_name (chars c.args.name.now)) (c.as_str-then-comes_first.ensures.characters ∙ c.in_ok-parent.ensures ∙ ap parent_name c.as_str.ensures.characters)
    ∙ own_parent_first c.args.number c.args.target c.args.new.now (chars c.args.name.now) first

pub returns-else-comes_first : goal.returns-else-comes_first
returns-else-comes_first c =
    let first = first_is c.args.number c.args.target c.args.new.now.members (chars (codes "name")) (chars (codes "type")) (codes "name") (codes "type") false name_text type_text c.if-comes_first.ensures in
    own_parent_later c.args.number c.args.target c.args.new.now (chars c.args.name.now) first
