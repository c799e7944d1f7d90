use Rattle.sqlite.specs.Held.{state}
use Rattle.store_sqlite.proofs.Whole.{some_applied, some_crash}
use Rattle.store_sqlite.proofs.statements.apply_all.Goals as goal

pub returns-clause-applied : goal.returns-clause-applied
returns-clause-applied g c = some_applied (state g.S.Store c.args.conn.now) (state g.S.Store c.make_changes.new.conn) c.args.changes.now c.make_changes.result c.make_changes.ensures.applied c.make_changes.ensures.tabled

pub returns-clause-crash : goal.returns-clause-crash
returns-clause-crash g c = some_crash (state g.S.Store c.args.conn.now) (state g.S.Store c.make_changes.new.conn) c.args.changes.now c.make_changes.ensures.crash c.make_changes.ensures.tableless
