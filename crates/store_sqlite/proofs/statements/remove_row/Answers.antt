use Rattle.std.proofs.Common.{ℕ, Result, Ok, Err, OnOk}
use Rattle.sqlite.specs.Order.{Row}
use Rattle.sqlite.specs.declared.error.Error.{Error}
use Rattle.sqlite.specs.State.{State, ExecutesInside}
use Rattle.store_kv.specs.Tables.{Tables}
use Rattle.store_sqlite.specs.Kept.{remove_text}
use Rattle.store_sqlite.specs.inner.Steps.{IsPending}
use Rattle.store_sqlite.proofs.Inside.{pends, goes_on}
use Rattle.store_sqlite.proofs.Get.{remove_unknown}
use Rattle.store_sqlite.proofs.Remove.{removes}
use Rattle.store_sqlite.proofs.statements.remove_row.Goals as goal

made : (params : Row) (old new : State) (m : Tables) (r : Result ℕ Error) → ((count : ℕ) → ExecutesInside 0 remove_text params old new (Ok count) → IsPending old new m) → ExecutesInside 0 remove_text params old new r → OnOk r (IsPending old new m)
made params old new m (Ok count) f h = f count h
made params old new m (Err e) f h = tt

pub returns-clause-done : goal.returns-clause-done
returns-clause-done g c clean was good =
    made _ _ _ _ c.execute.result (λ count h. pends remove_text _ _ _ _ count (removes _ _ c.args.table c.args.key.now count good h.0) h) (rw (c.params-to_sql.ensures, c.params-to_sql-2.ensures, c.from.ensures) at (c.execute.ensures.runs clean was))

pub returns-clause-inside : goal.returns-clause-inside
returns-clause-inside g c clean was = goes_on remove_text remove_unknown _ _ _ c.execute.result (c.execute.ensures.runs clean was)
