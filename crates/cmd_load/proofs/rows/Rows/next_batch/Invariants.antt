use Rattle.std.proofs.Common.{◌≡◌, ◌+◌, ◌-◌, ◌≤◌, ◌++◌, length, map}
use Rattle.cmd_load.specs.Batches.{AskedInTurn, batch_rows}
use Rattle.cmd_load.proofs.rows.Rows.next_batch.Given as goal

abbrev pub invariant-rows : goal.invariant-rows
invariant-rows g l = record {
  cells : map (λ r. r.cells) l.rows.items ++ l.self.left ≡ l.fn.self.left;
  number : l.self.number ≡ l.fn.self.number + length l.rows.items;
  asked : AskedInTurn (g.C.Clock.coming l.fn.clock) (g.C.Clock.coming l.clock) l.fn.self.number l.rows.items;
  few : length l.rows.items ≤ batch_rows;
}

abbrev pub decreases-rows : goal.decreases-rows
decreases-rows g l = batch_rows - length l.rows.items
