use Rattle.store_kv.specs.Draft.{tables_of}
use Rattle.store_rows.specs.Rows.{sharing_form}
use Rattle.store_abstraction.proofs.Found.{row_finds}
use Rattle.store_abstraction.proofs.Places.{PrefixLaws}
use Rattle.access_rules.proofs.RuleReads.{sharing_is_row, sharing_there}
use Rattle.access_rules.proofs.keys.rule_at.Goals as goal

pub returns-clause-finds : goal.returns-clause-finds
returns-clause-finds g c told =
    let m = tables_of g.K.Keeper.state c.args.draft.now in
    let key = c.args.key.now in
    let org = key.0 in
    let laws : PrefixLaws = record { interval = c.key_laws.ensures.interval; unbounded = c.key_laws.ensures.unbounded; bytes = c.table_laws.ensures.bytes } in
    row_finds laws c.key_laws.ensures.exact sharing_form org c.requires.0 key (sharing_there org key.1.1)
    (sharing_is_row c.id_laws.ensures.made org key.1.1 c.requires.0 c.requires)
    c.row_laws.ensures.found m c.row_at.result (c.row_at.ensures.row told)
