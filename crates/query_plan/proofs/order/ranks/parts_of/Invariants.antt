use Rattle.std.proofs.Common.{◌≡◌, ◌++◌, Some, drop, map}
use Rattle.model.specs.declared.record.Record.{Record}
use Rattle.query_plan.specs.order.Ranks.{part_in}
use Rattle.query_plan.proofs.order.ranks.parts_of.Given as goal

abbrev pub invariant-loop-key : goal.invariant-loop-key
invariant-loop-key g l = (r : Record) → g.V.HasValues.its_record l.item ≡ Some r
    → l.parts.items ++ map (part_in l.parents r) (drop l.key-index l.keys) ≡ map (part_in l.parents r) l.keys
