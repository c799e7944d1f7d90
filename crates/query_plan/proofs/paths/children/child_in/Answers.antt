use Rattle.std.proofs.Common.{◌∙◌}
use Rattle.std.specs.Str.{chars}
use Rattle.query_plan.proofs.ByLayout.{child_by_layouts}
use Rattle.query_plan.proofs.paths.children.child_in.Goals as goal

pub returns-clause-finds : goal.returns-clause-finds
returns-clause-finds c org q t e = c.child_of.ensures ∙ child_by_layouts org q t c.args.layouts.now c.args.object (chars c.args.name.now) e
