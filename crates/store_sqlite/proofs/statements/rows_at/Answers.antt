use Rattle.std.proofs.lemmas.Result.{IfOk-weaker}
use Rattle.sqlite.specs.Held.{state}
use Rattle.store_sqlite.proofs.Plain.{get_bare, commits_none}
use Rattle.store_sqlite.proofs.Get.{got_ready, query_harmless, query_open, query_trusted, harmless_stays, keeps}
use Rattle.store_sqlite.specs.Kept.{get_text}
use Rattle.store_sqlite.proofs.statements.rows_at.Goals as goal

pub returns-clause-row : goal.returns-clause-row
returns-clause-row g c it clean =
    IfOk-weaker c.query_all.result _ _ (λ rows. got_ready (state g.S.Store c.args.conn.now) it c.args.table c.args.key.now (state g.S.Store c.query_all.new.self) rows.items)
    (rw (c.params-to_sql.ensures, c.params-to_sql-2.ensures, c.from.ensures) at (c.query_all.ensures.ok clean))

pub returns-clause-stays : goal.returns-clause-stays
returns-clause-stays g c clean it =
    harmless_stays _ _ (query_harmless (λ rows. rows.items) get_text _ (state g.S.Store c.args.conn.now) (state g.S.Store c.query_all.new.self) c.query_all.result
    get_bare (c.query_all.ensures.ok clean) (c.query_all.ensures.err clean)) it

pub returns-clause-was_open : goal.returns-clause-was_open
returns-clause-was_open g c clean =
    query_open (λ rows. rows.items) get_text _ (state g.S.Store c.args.conn.now) (state g.S.Store c.query_all.new.self) c.query_all.result (c.query_all.ensures.ok clean) (c.query_all.ensures.err clean)

pub returns-clause-survives : goal.returns-clause-survives
returns-clause-survives g c = commits_none _ _ get_text _ get_bare c.query_all.ensures.survives

pub returns-clause-keeps : goal.returns-clause-keeps
returns-clause-keeps g c = keeps _ _ _ c.query_all.ensures.survives

pub returns-clause-trusted : goal.returns-clause-trusted
returns-clause-trusted g c clean = query_trusted (λ rows. rows.items) get_text _ (state g.S.Store c.args.conn.now) (state g.S.Store c.query_all.new.self) c.query_all.result (c.query_all.ensures.ok clean)
