use Rattle.std.proofs.Common.{◌≡◌, ◌<◌, ◌++◌, length}
use Rattle.std.specs.Vec.Iter.{into_iter_items}
use Rattle.store_kv.specs.Draft.{DraftWorks, count_of, keeper_of, tables_of}
use Rattle.store_kv.specs.Tables.{after}
use Rattle.store_edit.specs.Rows.{gone_of}
use Rattle.store_edit.proofs.changes.make_changes.Given as goal

abbrev pub invariant-loop-change : goal.invariant-loop-change
invariant-loop-change g l = record {
  left : l.yielded ++ into_iter_items l.change-iterator ≡ l.fn.changes.items;
  keeper : keeper_of l.draft ≡ keeper_of l.fn.draft;
  made : tables_of g.K.Keeper.state l.draft ≡ after l.yielded (tables_of g.K.Keeper.state l.fn.draft);
  some : 0 < length l.yielded → 0 < count_of l.draft;
  works : DraftWorks g.K.Keeper.state (length l.yielded) (gone_of l.yielded) 0 l.fn.draft l.draft;
}
