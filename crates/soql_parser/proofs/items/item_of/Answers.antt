use Rattle.std.proofs.Common.{arith, ◌≢◌}
use Rattle.soql_parser.proofs.Lists.{item-suc, item-zero}
use Rattle.soql_parser.proofs.items.item_of.Goals as goal

pub returns-then-left-eq0-clause-value : goal.returns-then-left-eq0-clause-value
returns-then-left-eq0-clause-value c = rw (← item-zero c.args.left c.args.signs.now c.if-left-eq0.true) c.path_item.ensures.value

pub returns-clause-value : goal.returns-clause-value
returns-clause-value c =
    let some : c.args.left ≢ 0 = omega arith in
    rw (← item-suc c.args.left c.args.signs.now some) c.any_item.ensures.value
