use Rattle.std.proofs.Common.{◌∙◌, sym}
use Rattle.std.specs.Str.{chars}
use Rattle.schema_rules.specs.Objects.{object_of_layout}
use Rattle.schema_rules.proofs.Texts.{short_enough, too_long}
use Rattle.schema_rules.proofs.formulas.read_formula.Goals as goal

pub returns-then-is_too_long : goal.returns-then-is_too_long
returns-then-is_too_long c = too_long c.args.criteria (object_of_layout c.args.layout.now) (chars c.args.text.now) (sym c.is_too_long.ensures ∙ c.if-is_too_long.true)

pub returns-else-is_too_long : goal.returns-else-is_too_long
returns-else-is_too_long c =
    short_enough c.args.criteria (object_of_layout c.args.layout.now) (chars c.args.text.now) c.read_text.result (sym c.is_too_long.ensures ∙ c.if-is_too_long.false) c.read_text.ensures
