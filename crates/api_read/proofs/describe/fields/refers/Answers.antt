use Rattle.std.proofs.Common.{◌∙◌, sym}
use Rattle.std.specs.Str.{chars}
use Rattle.model.specs.Relationships.{target_of}
use Rattle.api_read.proofs.DescribedFields.{refers_none, refers_some}
use Rattle.api_read.proofs.describe.fields.refers.Goals as goal

pub returns-in-Some : goal.returns-in-Some
returns-in-Some c =
    refers_some c.one_text.result c.args.layouts.now (target_of c.args.kind.now) c.in-Some.object (chars c.name_in.result.now) (sym c.target_of.ensures ∙ c.in-Some.is) c.name_in.ensures c.one_text.ensures

pub returns-in-None : goal.returns-in-None
returns-in-None c = refers_none c.args.layouts.now (target_of c.args.kind.now) c.new.result (sym c.target_of.ensures ∙ c.in-None.is) c.new.ensures
