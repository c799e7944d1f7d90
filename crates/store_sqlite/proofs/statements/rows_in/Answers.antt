use Rattle.std.proofs.Common.{ap, take, ◌∙◌, rules, w64}
use mir.Val.{SFits}
use Rattle.std.proofs.lemmas.Int.{to_z-of_z}
use Rattle.std.proofs.lemmas.Result.{IfOk-weaker}
use Rattle.store_kv.specs.Tables.{rows_between}
use Rattle.sqlite.specs.Held.{state}
use Rattle.store_sqlite.proofs.Plain.{scan_bare, commits_none}
use Rattle.store_sqlite.proofs.Scan.{scanned_ready, cut}
use Rattle.store_sqlite.proofs.Get.{query_harmless, query_open, query_trusted, harmless_stays, keeps}
use Rattle.store_sqlite.specs.Kept.{scan_text, map_in}
use Rattle.store_sqlite.proofs.statements.rows_in.Goals as goal

pub returns-clause-rows : goal.returns-clause-rows
returns-clause-rows g c it clean =
    let fits : SFits w64 c.sql_limit.result = search rules in
    let old = state g.S.Store c.args.conn.now in
    let n = c.sql_limit.result in
    let all = rows_between (map_in old.now.trees) c.args.table c.args.from.now c.args.below.now in
    IfOk-weaker c.query_all.result _ _ (λ rows h.
    ap (take c.args.limit) (scanned_ready c.walk_laws.ensures.listed old (state g.S.Store c.query_all.new.self) it c.args.table c.args.from.now c.args.below.now n rows.items h)
    ∙ cut c.args.limit n all c.sql_limit.ensures)
    (simp to_z-of_z at (rw (c.params-to_sql.ensures, c.params-to_sql-2.ensures, c.params-to_sql-3.ensures, c.params-to_sql-4.ensures, c.from.ensures) at (c.query_all.ensures.ok clean)))

pub returns-clause-stays : goal.returns-clause-stays
returns-clause-stays g c clean it =
    harmless_stays _ _ (query_harmless (λ rows. rows.items) scan_text _ (state g.S.Store c.args.conn.now) (state g.S.Store c.query_all.new.self) c.query_all.result
    scan_bare (c.query_all.ensures.ok clean) (c.query_all.ensures.err clean)) it

pub returns-clause-was_open : goal.returns-clause-was_open
returns-clause-was_open g c clean =
    query_open (λ rows. rows.items) scan_text _ (state g.S.Store c.args.conn.now) (state g.S.Store c.query_all.new.self) c.query_all.result (c.query_all.ensures.ok clean) (c.query_all.ensures.err clean)

pub returns-clause-survives : goal.returns-clause-survives
returns-clause-survives g c = commits_none _ _ scan_text _ scan_bare c.query_all.ensures.survives

pub returns-clause-keeps : goal.returns-clause-keeps
returns-clause-keeps g c = keeps _ _ _ c.query_all.ensures.survives

pub returns-clause-trusted : goal.returns-clause-trusted
returns-clause-trusted g c clean = query_trusted (λ rows. rows.items) scan_text _ (state g.S.Store c.args.conn.now) (state g.S.Store c.query_all.new.self) c.query_all.result (c.query_all.ensures.ok clean)
