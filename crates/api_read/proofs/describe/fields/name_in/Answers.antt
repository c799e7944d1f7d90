use Rattle.std.proofs.Common.{◌∙◌}
use Rattle.std.specs.Str.{chars}
use Rattle.api_read.proofs.DescribedFields.{name_found, name_missing}
use Rattle.api_read.proofs.describe.fields.name_in.Goals as goal

pub returns-in-Some : goal.returns-in-Some
returns-in-Some c = c.as_str.ensures.characters ∙ name_found c.args.layouts.now c.args.object c.layout_at.result c.in-Some.layout c.layout_at.ensures c.in-Some.is

pub returns-in-None : goal.returns-in-None
unfolding chars
returns-in-None c = name_missing c.args.layouts.now c.args.object c.layout_at.result c.layout_at.ensures c.in-None.is
