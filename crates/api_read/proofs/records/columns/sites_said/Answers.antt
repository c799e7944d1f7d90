use Rattle.std.proofs.Common.{◌∙◌, sym}
use Rattle.std.specs.Str.{chars}
use Rattle.api_read.proofs.ColumnsNamed.{all_said}
use Rattle.api_read.proofs.records.columns.sites_said.Goals as goal

pub returns-then-is_text-clause-finds : goal.returns-then-is_text-clause-finds
unfolding chars
returns-then-is_text-clause-finds c = all_said c.args.layout.now c.args.text.now c.in_ok-sites.sites (sym c.is_text.ensures.same ∙ c.if-is_text.true) c.in_ok-sites.ensures
