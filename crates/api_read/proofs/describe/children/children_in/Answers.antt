use Rattle.std.specs.Str.{chars}
use Rattle.api_read.proofs.ChildrenListed.{children_made}
use Rattle.api_read.proofs.describe.children.children_in.Goals as goal

pub returns : goal.returns
returns c =
    children_made c.child_list.result c.args.object c.args.layout.now (chars c.as_str.result.now) c.as_slice.result.now c.as_str.ensures.characters c.as_slice.ensures c.child_list.ensures
