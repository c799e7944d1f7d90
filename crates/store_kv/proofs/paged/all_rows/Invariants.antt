use Rattle.std.proofs.Common.{◌≡◌, ◌-◌, ◌++◌}
use Rattle.store_kv.specs.State.{ShownMost, data_rows}
use Rattle.store_kv.specs.Tables.{rows_between}
use Rattle.store_kv.specs.Draft.{state_of, tables_of, DraftTells, DraftReads, rise}
use Rattle.store_kv.proofs.paged.all_rows.Given as goal

abbrev pub invariant-pages : goal.invariant-pages
invariant-pages g l = record {
  reads : DraftReads g.K.Keeper.state (data_rows l.table (rise g.K.Keeper.state l.initial.draft l.draft)) l.initial.draft l.draft;
  shown : ShownMost l.table ((state_of g.K.Keeper.state l.draft).shown l.table - (state_of g.K.Keeper.state l.initial.draft).shown l.table) (state_of g.K.Keeper.state l.initial.draft) (state_of g.K.Keeper.state l.draft);
  quiet : (state_of g.K.Keeper.state l.draft).faults ≡ (state_of g.K.Keeper.state l.initial.draft).faults;
  rows : DraftTells g.K.Keeper.state l.initial.draft l.draft
      → l.all.items ++ rows_between (tables_of g.K.Keeper.state l.initial.draft) l.table l.next l.below ≡ rows_between (tables_of g.K.Keeper.state l.initial.draft) l.table l.from l.below;
}
