use Rattle.std.specs.Str.{chars}
use Rattle.api_read.proofs.DescribedObjects.{found_told, missing_told}
use Rattle.api_read.proofs.describe.told_by.Goals as goal

pub returns-in-Some-clause-value : goal.returns-in-Some-clause-value
returns-in-Some-clause-value c =
    found_told c.args.layouts.now c.args.name.now (chars c.as_str.result.now) c.layout_called.result c.in-Some.layout c.described.result
    c.layout_called.ensures c.as_str.ensures.characters c.in-Some.is c.described.ensures.value

pub returns-in-Ok-clause-value : goal.returns-in-Ok-clause-value
returns-in-Ok-clause-value c =
    missing_told c.args.layouts.now c.args.name.now (chars c.as_str.result.now) c.layout_called.result c.in-Ok.refusal
    c.layout_called.ensures c.as_str.ensures.characters c.in-None.is c.in-Ok.ensures
