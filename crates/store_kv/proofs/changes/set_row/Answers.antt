use Rattle.std.proofs.Common.{sym, ◌∙◌}
use Rattle.store_kv.proofs.Laid.{tables-updates, row_found, row_missing}
use Rattle.store_kv.proofs.changes.set_row.Goals as goal

pub returns-in-Some-clause-made : goal.returns-in-Some-clause-made
returns-in-Some-clause-made c = tables-updates c.args.rows.now c.insert.new.self c.args.place c.args.row c.in_ok-before.ensures.updates

pub returns-in-None-clause-made : goal.returns-in-None-clause-made
returns-in-None-clause-made c = tables-updates c.args.rows.now c.insert.new.self c.args.place c.args.row c.in_ok-before.ensures.updates

pub returns-in-Some-clause-replaced : goal.returns-in-Some-clause-replaced
returns-in-Some-clause-replaced c = row_found c.args.rows.now.entries c.args.place c.in-Some.before (sym c.in_ok-before.ensures.old ∙ c.in-Some.is)

pub returns-in-None-clause-replaced : goal.returns-in-None-clause-replaced
returns-in-None-clause-replaced c = row_missing c.args.rows.now.entries c.args.place (sym c.in_ok-before.ensures.old ∙ c.in-None.is)
