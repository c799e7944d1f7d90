use Rattle.std.proofs.Common.{◌*◌, Ok, drop}
use Rattle.store_kv.specs.Draft.{DraftTells, removals_of, tables_of}
use Rattle.store_kv.specs.State.{data_table}
use Rattle.model.specs.Callers.{named_by}
use Rattle.store_abstraction.specs.Operations.{Drafts}
use Rattle.cmd_load.specs.Batches.{changes_of_row, shown_of_row}
use Rattle.cmd_load.specs.inner.Joining.{judged_so}
use Rattle.cmd_load.proofs.RowByRow.{LoadedBy}
use Rattle.cmd_load.proofs.batch.load_batch.Given as goal

abbrev pub invariant-loop-row : goal.invariant-loop-row
invariant-loop-row g l =
    let state = g.K.Keeper.state in
    let loading = l.loading in
    record {
      done : DraftTells state l.fn.draft l.draft
          → LoadedBy (named_by loading.org.now loading.user.now loading.secret.now) loading.plan.now l.rows (tables_of state l.fn.draft) (drop l.row-index l.rows) l.lines.items l.changed (tables_of state l.draft);
      drafts : Drafts state (l.row-index * changes_of_row) 0 (l.row-index * shown_of_row (removals_of state data_table l.fn.draft)) (Ok (judged_so l.changed l.lines.items)) l.fn.draft l.draft;
    }
