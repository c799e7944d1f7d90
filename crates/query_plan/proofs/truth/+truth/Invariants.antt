use Rattle.std.proofs.Common.{◌≡◌, Some, drop}
use Rattle.std.specs.List.{list_all, list_any}
use Rattle.model.specs.declared.record.Record.{Record}
use Rattle.query_plan.specs.Checks.{check_holds}
use Rattle.query_plan.proofs.truth.+truth.Given as goal

abbrev pub invariant-all_hold-loop-check : goal.invariant-all_hold-loop-check
invariant-all_hold-loop-check g l = (r : Record) → g.V.HasValues.its_record l.item ≡ Some r
    → list_all (check_holds l.far r) l.checks ≡ list_all (check_holds l.far r) (drop l.check-index l.checks)

abbrev pub invariant-some_hold-loop-check : goal.invariant-some_hold-loop-check
invariant-some_hold-loop-check g l = (r : Record) → g.V.HasValues.its_record l.item ≡ Some r
    → list_any (check_holds l.far r) l.checks ≡ list_any (check_holds l.far r) (drop l.check-index l.checks)
