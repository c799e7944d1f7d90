use Rattle.std.proofs.Common.{◌≡◌, [], drop}
use Rattle.query_check.specs.Rules.{items_rule}
use Rattle.query_check.proofs.items.items_refusal.Given as goal

abbrev pub invariant-loop-item : goal.invariant-loop-item
invariant-loop-item l = items_rule l.layouts l.layout [] l.items ≡ items_rule l.layouts l.layout l.before.items (drop l.item-index l.items)
