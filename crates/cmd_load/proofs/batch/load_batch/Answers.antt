use Rattle.std.proofs.Common.{◌≡◌, ◌+◌, ◌*◌, ◌<◌, ◌≤◌, ◌∙◌, ◌∷◌, ◌||◌, Bool, Err, List, Ok, Result, ap, arith, drop, length, rules, subst, sym, ℕ}
use Rattle.std.proofs.lemmas.List.{drop_all, drop_more}
use Rattle.store_kv.specs.Draft.{removals_of, tables_of}
use Rattle.store_kv.specs.State.{data_table}
use Rattle.store_rows.specs.declared.fail.StoreFail.{StoreFail}
use Rattle.model.specs.Callers.{named_by}
use Rattle.store_abstraction.specs.declared.judged.Judged.{Judged}
use Rattle.store_abstraction.specs.Operations.{Drafts}
use Rattle.cmd_load.specs.Batches.{AskedRow, JudgesRowsFor, changes_of_row, shown_of_row}
use Rattle.cmd_load.specs.inner.Joining.{is_changed, judged_so}
use Rattle.cmd_load.proofs.Drafting.{DraftLaws, at_most, drafts_then, drafts_wider, ended_then, failed_then, memory_told, once_more}
use Rattle.cmd_load.proofs.RowByRow.{LoadedBy, all_by, failed_by, memory_by, one_by}
use Rattle.cmd_load.proofs.batch.load_batch.Goals as goal

pub loop-row-preserved : goal.loop-row-preserved
loop-row-preserved g c =
    let state = g.K.Keeper.state in
    let loading = c.args.loading.now in
    let key = named_by loading.org.now loading.user.now loading.secret.now in
    let plan = loading.plan.now in
    let rows = c.args.rows.now in
    let i = c.loop-row.row-index in
    let row = c.row-item.result in
    let a = c.args.draft.now in
    let b = c.loop-row.draft in
    let d = c.load_one.new.draft in
    let lines = c.loop-row.lines.items in
    let changed = c.loop-row.changed in
    let text = c.add_line.new.lines.items in
    let j = c.in-Ok.judged in
    let near = shown_of_row (removals_of state data_table b) in
    let most = shown_of_row (removals_of state data_table a) in
    let before = c.loop-row.invariant in
    let laws : DraftLaws state = record { works = c.draft_laws.ensures.works; works_most = c.draft_laws.ensures.works_most; reads = c.draft_laws.ensures.reads; reads_most = c.draft_laws.ensures.reads_most } in
    let fewer = before.drafts.makes.works.removals in
    let next = c.in_ok-changed-in-Ok.ensures in
    let at : drop i rows ≡ row ∷ drop (i + 1) rows = drop_more rows i row (search rules) ∙ ap (λ (r : AskedRow). r ∷ drop (i + 1) rows) (sym c.row-item.is) in
    record {
      done = λ told.
          let before_all = tables_of state a in
          let first = c.draft_laws.ensures.told_first changes_of_row 0 near a b d c.load_one.ensures.drafts.makes.works told in
          let then = c.draft_laws.ensures.told_then (i * changes_of_row) 0 (i * most) a b d before.drafts.makes.works first told in
          let h = subst (λ (rs : List AskedRow). LoadedBy key plan rows before_all rs lines changed (tables_of state b)) at (before.done first) in
          let one = one_by plan rows before_all key row (drop (i + 1) rows) lines changed (tables_of state b) (tables_of state d) j h (c.in-Ok.ensures.what then)
          (λ same. c.draft_laws.ensures.tables near b d (c.in-Ok.ensures.drafts.same same) then) in
          subst (λ (v : Bool). LoadedBy key plan rows before_all (drop (i + 1) rows) text v (tables_of state d)) (sym next.changed)
          (subst (λ (t : List ℕ). LoadedBy key plan rows before_all (drop (i + 1) rows) t (changed || is_changed j) (tables_of state d)) (sym next.lines) one);
      drafts =
          subst (λ (v : Bool). Drafts state ((i + 1) * changes_of_row) 0 ((i + 1) * most) (Ok (judged_so v text)) a d) (sym next.changed)
          (drafts_wider state laws (i * changes_of_row + changes_of_row) (i * most + near) ((i + 1) * changes_of_row) ((i + 1) * most) _ a d
          (once_more i changes_of_row changes_of_row (omega arith)) (once_more i most near (omega (arith, fewer)))
          (drafts_then state laws (i * changes_of_row) (i * most) changes_of_row near a b d changed lines before.drafts j text c.in-Ok.ensures.drafts));
    }

pub returns-in-Err-clause-what : goal.returns-in-Err-clause-what
returns-in-Err-clause-what g c told =
    let state = g.K.Keeper.state in
    let i = c.loop-row.row-index in
    let row = c.row-item.result in
    let a = c.args.draft.now in
    let b = c.loop-row.draft in
    let d = c.load_one.new.draft in
    let loading = c.args.loading.now in
    let plan = loading.plan.now in
    let key = named_by loading.org.now loading.user.now loading.secret.now in
    let rows = c.args.rows.now in
    let before = c.loop-row.invariant in
    let lines = c.loop-row.lines.items in
    let changed = c.loop-row.changed in
    let near = shown_of_row (removals_of state data_table b) in
    let most = shown_of_row (removals_of state data_table a) in
    let first = c.draft_laws.ensures.told_first changes_of_row 0 near a b d c.load_one.ensures.drafts.makes.works told in
    let then = c.draft_laws.ensures.told_then (i * changes_of_row) 0 (i * most) a b d before.drafts.makes.works first told in
    let at : drop i rows ≡ row ∷ drop (i + 1) rows = drop_more rows i row (search rules) ∙ ap (λ (r : AskedRow). r ∷ drop (i + 1) rows) (sym c.row-item.is) in
    failed_by plan rows (tables_of state a) key row (drop (i + 1) rows) lines changed (tables_of state b) (tables_of state d) c.in-Err.fail
    (subst (λ (rs : List AskedRow). LoadedBy key plan rows (tables_of state a) rs lines changed (tables_of state b)) at (before.done first)) (c.in-Err.ensures.what then)

pub returns-in_err-changed-in-Ok-clause-what : goal.returns-in_err-changed-in-Ok-clause-what
returns-in_err-changed-in-Ok-clause-what g c told =
    let state = g.K.Keeper.state in
    let loading = c.args.loading.now in
    let key = named_by loading.org.now loading.user.now loading.secret.now in
    let before = tables_of state c.args.draft.now in
    let after = tables_of state c.load_one.new.draft in
    subst (λ (r : Result (Judged (List ℕ)) StoreFail). JudgesRowsFor key loading.plan.now c.args.rows.now before after r) (sym (memory_told c.from_residual.result c.from_residual.ensures))
    (memory_by loading.plan.now c.args.rows.now before key after)

pub returns-in-Err-clause-drafts : goal.returns-in-Err-clause-drafts
returns-in-Err-clause-drafts g c =
    let state = g.K.Keeper.state in
    let i = c.loop-row.row-index in
    let n = length c.args.rows.now in
    let a = c.args.draft.now in
    let b = c.loop-row.draft in
    let d = c.load_one.new.draft in
    let before = c.loop-row.invariant in
    let near = shown_of_row (removals_of state data_table b) in
    let most = shown_of_row (removals_of state data_table a) in
    let fewer = before.drafts.makes.works.removals in
    let laws : DraftLaws state = record { works = c.draft_laws.ensures.works; works_most = c.draft_laws.ensures.works_most; reads = c.draft_laws.ensures.reads; reads_most = c.draft_laws.ensures.reads_most } in
    let less : i < n = search rules in
    drafts_wider state laws (i * changes_of_row + changes_of_row) (i * most + near) (n * changes_of_row) (n * most) (Err c.in-Err.fail) a d
    (at_most i n changes_of_row changes_of_row less (omega arith)) (at_most i n most near less (omega (arith, fewer)))
    (failed_then state laws (i * changes_of_row) (i * most) changes_of_row near a b d c.loop-row.changed c.loop-row.lines.items before.drafts c.in-Err.fail c.in-Err.ensures.drafts)

pub returns-in_err-changed-in-Ok-clause-drafts : goal.returns-in_err-changed-in-Ok-clause-drafts
returns-in_err-changed-in-Ok-clause-drafts g c =
    let state = g.K.Keeper.state in
    let i = c.loop-row.row-index in
    let n = length c.args.rows.now in
    let a = c.args.draft.now in
    let b = c.loop-row.draft in
    let d = c.load_one.new.draft in
    let before = c.loop-row.invariant in
    let near = shown_of_row (removals_of state data_table b) in
    let most = shown_of_row (removals_of state data_table a) in
    let fewer = before.drafts.makes.works.removals in
    let laws : DraftLaws state = record { works = c.draft_laws.ensures.works; works_most = c.draft_laws.ensures.works_most; reads = c.draft_laws.ensures.reads; reads_most = c.draft_laws.ensures.reads_most } in
    let less : i < n = search rules in
    subst (λ (r : Result (Judged (List ℕ)) StoreFail). Drafts state (n * changes_of_row) 0 (n * most) r a d) (sym (memory_told c.from_residual.result c.from_residual.ensures))
    (drafts_wider state laws (i * changes_of_row + changes_of_row) (i * most + near) (n * changes_of_row) (n * most) _ a d
    (at_most i n changes_of_row changes_of_row less (omega arith)) (at_most i n most near less (omega (arith, fewer)))
    (ended_then state laws (i * changes_of_row) (i * most) changes_of_row near a b d c.loop-row.changed c.loop-row.lines.items before.drafts c.in-Ok.judged c.in-Ok.ensures.drafts))

pub returns-clause-what : goal.returns-clause-what
returns-clause-what g c told =
    let state = g.K.Keeper.state in
    let loading = c.args.loading.now in
    let key = named_by loading.org.now loading.user.now loading.secret.now in
    let plan = loading.plan.now in
    let rows = c.args.rows.now in
    let before = tables_of state c.args.draft.now in
    let after = tables_of state c.loop-row.draft in
    let lines = c.loop-row.lines.items in
    let past : length rows ≤ c.loop-row.row-index = search rules in
    let done = subst (λ (rs : List AskedRow). LoadedBy key plan rows before rs lines c.loop-row.changed after) (drop_all c.loop-row.row-index rows past) (c.loop-row.invariant.done told) in
    let same : c.judged_so.result ≡ judged_so c.loop-row.changed lines = search rules in
    subst (λ (j : Judged (List ℕ)). JudgesRowsFor key plan rows before after (Ok j)) (sym same) (all_by plan rows before key lines c.loop-row.changed after done)
