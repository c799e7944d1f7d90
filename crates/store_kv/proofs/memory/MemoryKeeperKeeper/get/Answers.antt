use Rattle.std.proofs.Common.{ap, ◌∙◌, arith, slice_index, ◌≤◌, ◌-◌, ◌^◌, List, ℕ}
use Rattle.store_kv.specs.State.{more_shown}
use Rattle.store_kv.specs.Memory.{InMemory}
use Rattle.store_kv.proofs.Counts.{counted_by}
use Rattle.store_kv.proofs.memory.MemoryKeeperKeeper.get.Goals as goal

pub returns-clause-shown : goal.returns-clause-shown
returns-clause-shown c =
    let xs = c.self.inside.shown in
    let was = ap (λ (k : InMemory). k.shown) c.self.view_is ∙ c.fails.ensures.shown in
    let now : slice_index xs c.args.table ≤ 2 ^ 64 - 1 = omega arith in
    counted_by xs c.args.table c.saturating_add.result 1 (omega arith) now c.saturating_add.ensures ∙ ap (λ (l : List ℕ). more_shown c.args.table 1 (λ t. slice_index l t)) was
