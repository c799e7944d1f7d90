use Rattle.std.proofs.Common.{◌≡◌, ◌<◌, drop, IsTrue}
use Rattle.sqlite.specs.State.{HasCleanDisk, Survives}
use Rattle.sqlite.specs.Held.{state}
use Rattle.store_kv.specs.Tables.{after}
use Rattle.store_sqlite.specs.Kept.{IsKept, no_schema, tables_in}
use Rattle.store_sqlite.specs.inner.Steps.{IsGood, Undoes}
use Rattle.store_sqlite.proofs.statements.make_changes.Given as goal

abbrev pub invariant-loop-change : goal.invariant-loop-change
invariant-loop-change g l =
    let old = state g.S.Store l.fn.conn in
    let now = state g.S.Store l.tx.conn.now in
    record {
      same : l.tx.conn.ghost_name ≡ l.initial.tx.conn.ghost_name;
      survives : Survives old now (λ _. ⊥);
      undoes : HasCleanDisk now → Undoes old now;
      was_open : HasCleanDisk now → 0 < l.change-index → IsTrue old.is_open;
      tableless : HasCleanDisk now → old.now.schema ≡ no_schema → (l.change-index ≡ 0) × (now.now.schema ≡ no_schema);
      inside : HasCleanDisk now → IsTrue now.in_transaction;
      good : IsKept old → HasCleanDisk now → IsGood now;
      rest : IsKept old → HasCleanDisk now → after (drop l.change-index l.changes) (tables_in now.now.trees) ≡ after l.changes (tables_in old.now.trees);
    }
