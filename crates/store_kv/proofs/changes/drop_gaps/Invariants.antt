use Rattle.std.proofs.Common.{◌≡◌}
use Rattle.store_kv.specs.Memory.{tables_in}
use Rattle.store_kv.proofs.changes.drop_gaps.Given as goal

abbrev pub invariant-loop-change : goal.invariant-loop-change
invariant-loop-change l = tables_in l.rows.entries ≡ tables_in l.initial.rows.entries
