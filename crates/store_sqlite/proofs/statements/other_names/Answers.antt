use Rattle.sqlite.specs.Held.{state}
use Rattle.store_sqlite.proofs.Plain.{others_bare}
use Rattle.store_sqlite.proofs.Get.{query_unchanged, was_clean}
use Rattle.store_sqlite.specs.Kept.{others_text}
use Rattle.store_sqlite.proofs.statements.other_names.Goals as goal

pub returns-clause-unchanged : goal.returns-clause-unchanged
returns-clause-unchanged g c clean =
    query_unchanged (λ rows. rows.items) others_text _ (state g.S.Store c.args.conn.now) (state g.S.Store c.query_all.new.self) c.query_all.result others_bare (c.query_all.ensures.ok clean)

pub returns-clause-clean : goal.returns-clause-clean
returns-clause-clean g c = was_clean _ _ _ c.query_all.ensures.survives
