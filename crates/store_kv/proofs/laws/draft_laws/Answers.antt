use Rattle.store_kv.proofs.Calls as calls
use Rattle.store_kv.proofs.Counted.{removals_most}
use Rattle.store_kv.proofs.laws.draft_laws.Goals as goal

pub returns : goal.returns
returns g c = record {
  tables = calls.reads_tables g.K.Keeper.state;
  told_first = calls.told_first g.K.Keeper.state;
  told_then = calls.told_then g.K.Keeper.state;
  removals = λ table a. removals_most table a.changes.entries;
  both = calls.both_tell g.K.Keeper.state;
  same = calls.draft_none g.K.Keeper.state 0;
  reads = calls.draft_reads g.K.Keeper.state;
  works = calls.draft_works g.K.Keeper.state;
  reads_work = calls.reads_work g.K.Keeper.state;
  reads_most = calls.reads_most g.K.Keeper.state;
  works_most = calls.works_most g.K.Keeper.state;
  rise = calls.reads_rise g.K.Keeper.state;
}
