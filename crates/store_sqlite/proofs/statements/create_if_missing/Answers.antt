use Rattle.sqlite.specs.Held.{state}
use Rattle.store_sqlite.proofs.Get.{stays_map}
use Rattle.store_sqlite.proofs.Made.{made_kept, made_crash}
use Rattle.store_sqlite.proofs.statements.create_if_missing.Goals as goal

pub returns-in_err-statement-clause-kept : goal.returns-in_err-statement-clause-kept
returns-in_err-statement-clause-kept g c it clean shown = stays_map _ _ (c.prepare_table.ensures.stays clean) it shown

pub returns-in_err-create_table-clause-kept : goal.returns-in_err-create_table-clause-kept
returns-in_err-create_table-clause-kept g c =
    made_kept (state g.S.Store c.args.conn.now) (state g.S.Store c.prepare_table.new.conn) (state g.S.Store c.create_table.new.conn) c.in_ok-statement.ensures.ok c.prepare_table.ensures.stays c.prepare_table.ensures.survives c.in_ok-statement.statement.text
    c.in_ok-statement.ensures.text c.create_table.ensures.survives c.create_table.result c.create_table.ensures.runs

pub returns-in_err-create_table-clause-crash : goal.returns-in_err-create_table-clause-crash
returns-in_err-create_table-clause-crash g c =
    made_crash (state g.S.Store c.args.conn.now) (state g.S.Store c.prepare_table.new.conn) (state g.S.Store c.create_table.new.conn) c.in_ok-statement.ensures.ok c.prepare_table.ensures.stays c.prepare_table.ensures.survives c.in_ok-statement.statement.text
    c.in_ok-statement.ensures.text c.create_table.ensures.survives

pub returns-clause-kept : goal.returns-clause-kept
returns-clause-kept g c =
    made_kept (state g.S.Store c.args.conn.now) (state g.S.Store c.prepare_table.new.conn) (state g.S.Store c.create_table.new.conn) c.in_ok-statement.ensures.ok c.prepare_table.ensures.stays c.prepare_table.ensures.survives c.in_ok-statement.statement.text
    c.in_ok-statement.ensures.text c.create_table.ensures.survives c.create_table.result c.create_table.ensures.runs

pub returns-clause-crash : goal.returns-clause-crash
returns-clause-crash g c =
    made_crash (state g.S.Store c.args.conn.now) (state g.S.Store c.prepare_table.new.conn) (state g.S.Store c.create_table.new.conn) c.in_ok-statement.ensures.ok c.prepare_table.ensures.stays c.prepare_table.ensures.survives c.in_ok-statement.statement.text
    c.in_ok-statement.ensures.text c.create_table.ensures.survives
