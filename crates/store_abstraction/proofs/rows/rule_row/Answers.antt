use Rattle.std.proofs.Common.{arith}
use Rattle.store_kv.specs.Draft.{tables_of}
use Rattle.store_rows.specs.Rows.{validation_form}
use Rattle.store_abstraction.proofs.Found.{row_finds}
use Rattle.store_abstraction.proofs.Places.{PrefixLaws}
use Rattle.store_abstraction.proofs.RuleRows.{rule_is_row, rule_there}
use Rattle.store_abstraction.proofs.rows.rule_row.Goals as goal

pub returns-clause-finds : goal.returns-clause-finds
returns-clause-finds g c told =
    let m = tables_of g.K.Keeper.state c.args.draft.now in
    let org = c.args.org in
    let n = c.args.object in
    let key = c.args.lower_name in
    let laws : PrefixLaws = record { interval = c.key_laws.ensures.interval; unbounded = c.key_laws.ensures.unbounded; bytes = c.table_laws.ensures.bytes } in
    row_finds laws c.key_laws.ensures.exact validation_form org (omega arith) (org, (tt, (n, key))) (rule_there org n key)
    (rule_is_row c.name_laws.ensures.text c.name_laws.ensures.short org n key (omega arith) (omega arith) c.requires)
    c.row_laws.ensures.found m c.row_at.result (c.row_at.ensures.row told)
