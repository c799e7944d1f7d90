use Rattle.std.proofs.Common.{ℕ, Result, Ok, Err, OnOk}
use Rattle.sqlite.specs.Order.{Row}
use Rattle.sqlite.specs.declared.error.Error.{Error}
use Rattle.sqlite.specs.State.{State, ExecutesInside}
use Rattle.store_kv.specs.Tables.{Tables}
use Rattle.store_sqlite.specs.Kept.{put_text}
use Rattle.store_sqlite.specs.inner.Steps.{IsPending}
use Rattle.store_sqlite.proofs.Inside.{pends, goes_on}
use Rattle.store_sqlite.proofs.Get.{put_unknown}
use Rattle.store_sqlite.proofs.Put.{puts}
use Rattle.store_sqlite.proofs.statements.put_row.Goals as goal

made : (params : Row) (old new : State) (m : Tables) (r : Result ℕ Error) → ((count : ℕ) → ExecutesInside 0 put_text params old new (Ok count) → IsPending old new m) → ExecutesInside 0 put_text params old new r → OnOk r (IsPending old new m)
made params old new m (Ok count) f h = f count h
made params old new m (Err e) f h = tt

pub returns-clause-done : goal.returns-clause-done
returns-clause-done g c clean was good =
    made _ _ _ _ c.execute.result (λ count h. pends put_text _ _ _ _ count (puts _ _ c.args.table c.args.key.now c.args.row.now count good h.0) h) (rw (c.params-to_sql.ensures, c.params-to_sql-2.ensures, c.params-to_sql-3.ensures, c.from.ensures) at (c.execute.ensures.runs clean was))

pub returns-clause-inside : goal.returns-clause-inside
returns-clause-inside g c clean was = goes_on put_text put_unknown _ _ _ c.execute.result (c.execute.ensures.runs clean was)
