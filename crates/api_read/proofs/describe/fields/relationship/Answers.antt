use Rattle.std.proofs.Common.{◌∙◌, sym}
use Rattle.std.specs.Str.{chars}
use Rattle.model.specs.Relationships.{target_of}
use Rattle.api_read.proofs.DescribedFields.{relates_none, relates_some}
use Rattle.api_read.proofs.describe.fields.relationship.Goals as goal

pub returns-in-Some : goal.returns-in-Some
returns-in-Some c =
    relates_some c.parent.result (target_of c.args.field.now.kind) c.in-Some.field-0 (chars c.as_str.result.now) c.args.field.now.name (sym c.target_of.ensures ∙ c.in-Some.is) c.as_str.ensures.characters c.parent.ensures

pub returns-in-None : goal.returns-in-None
returns-in-None c = relates_none (target_of c.args.field.now.kind) c.args.field.now.name (sym c.target_of.ensures ∙ c.in-None.is)
