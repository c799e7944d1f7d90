use Rattle.std.specs.Str.{chars}
use Rattle.record_input.specs.Columns.{shown}
use Rattle.record_input.proofs.Refused.{seen_there, unseen}
use Rattle.record_input.proofs.columns.custom_named.Goals as goal

pub returns-in-Some : goal.returns-in-Some
returns-in-Some c =
    seen_there c.args.layout.now.fields c.as_slice.result.now (chars c.args.name.now) c.in-Some.field.now (chars c.as_str.result.now) (shown c.writable.result)
    c.as_slice.ensures c.in-Some.ensures c.as_str.ensures.characters c.writable.ensures

pub returns-in-None : goal.returns-in-None
returns-in-None c = unseen c.args.layout.now.fields c.as_slice.result.now (chars c.args.name.now) c.as_slice.ensures c.in-None.ensures
