use Rattle.std.proofs.Common.{◌≡◌, ◌∙◌, ap, length, rules}
use Rattle.cmd_load.specs.Batches.{batch_rows}
use Rattle.cmd_load.specs.Inputs.{Unread}
use Rattle.cmd_load.proofs.Reading.{last_cells, last_left, whole_cells, whole_left}
use Rattle.cmd_load.proofs.rows.Rows.next_batch.Goals as goal

pub returns-in-None-clause-cells : goal.returns-in-None-clause-cells
returns-in-None-clause-cells g c =
    let next = rw c.in-None.is at c.in_ok-row.ensures in
    last_cells c.rows.rows.items c.rows.self.left c.args.self.now.left c.rows.invariant.cells next.0 c.rows.invariant.few

pub returns-in-None-clause-left : goal.returns-in-None-clause-left
returns-in-None-clause-left g c =
    let next = rw c.in-None.is at c.in_ok-row.ensures in
    ap (λ (u : Unread). u.left) next.1 ∙ last_left c.rows.rows.items c.rows.self.left c.args.self.now.left c.rows.invariant.cells next.0 c.rows.invariant.few

pub returns-clause-cells : goal.returns-clause-cells
returns-clause-cells g c =
    let whole : length c.rows.rows.items ≡ batch_rows = search rules in
    whole_cells c.rows.rows.items c.rows.self.left c.args.self.now.left c.rows.invariant.cells whole

pub returns-clause-left : goal.returns-clause-left
returns-clause-left g c =
    let whole : length c.rows.rows.items ≡ batch_rows = search rules in
    whole_left c.rows.rows.items c.rows.self.left c.args.self.now.left c.rows.invariant.cells whole
