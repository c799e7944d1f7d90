use Rattle.std.specs.Str.{chars}
use Rattle.api_read.proofs.DescribedFields.{owner_none, owner_one}
use Rattle.api_read.proofs.describe.fields.owner.Goals as goal

pub returns-then-has_master : goal.returns-then-has_master
returns-then-has_master c =
    owner_none c.args.layout.now c.as_slice.result.now c.has_master.result c.new-all.result c.as_slice.ensures c.has_master.ensures c.if-has_master.true c.new-all.ensures

pub returns : goal.returns
unfolding chars
returns c =
    owner_one c.args.layout.now c.as_slice.result.now c.has_master.result c.push.new.self c.new-all.result c.in_ok-standard.field-0
    c.as_slice.ensures c.has_master.ensures c.if-has_master.false c.new-all.ensures c.in_ok-standard.ensures c.in_ok-push.ensures.ok
