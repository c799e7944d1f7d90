use Rattle.sqlite.specs.Held.{state}
use Rattle.store_sqlite.proofs.Get.{prepare_harmless, harmless_stays, harmless_open}
use Rattle.store_sqlite.proofs.statements.prepare_table.Goals as goal

pub returns-clause-stays : goal.returns-clause-stays
returns-clause-stays g c clean = harmless_stays _ _ (prepare_harmless (λ s. s.text) _ (state g.S.Store c.args.conn.now) (state g.S.Store c.prepare.new.self) c.prepare.result (c.prepare.ensures.ok clean) (c.prepare.ensures.err clean))

pub returns-clause-was_open : goal.returns-clause-was_open
returns-clause-was_open g c clean = harmless_open _ _ (prepare_harmless (λ s. s.text) _ (state g.S.Store c.args.conn.now) (state g.S.Store c.prepare.new.self) c.prepare.result (c.prepare.ensures.ok clean) (c.prepare.ensures.err clean))
