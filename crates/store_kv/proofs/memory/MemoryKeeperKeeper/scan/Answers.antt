use Rattle.std.proofs.Common.{◌≡◌, ap, ◌∙◌, arith, [], take, length, slice_index, ◌+◌, ◌≤◌, ◌-◌, ◌^◌, List, ℕ}
use Rattle.base_value.specs.Causes.{up_to_last}
use Rattle.store_kv.specs.Tables.{Tables, rows_between}
use Rattle.store_kv.specs.State.{more_shown}
use Rattle.store_kv.specs.inner.Merging.{merged}
use Rattle.store_kv.specs.Memory.{InMemory}
use Rattle.store_kv.proofs.Scans.{memory_rows}
use Rattle.store_kv.proofs.Counts.{counted_by}
use Rattle.store_kv.proofs.memory.MemoryKeeperKeeper.scan.Goals as goal

pub returns-clause-rows : goal.returns-clause-rows
returns-clause-rows c told =
    let limit = c.args.limit in
    let tables = ap (λ (k : InMemory). k.tables) c.self.view_is ∙ c.fails.ensures.tables in
    c.in_ok-rows.ensures ∙ ap (λ ks. take limit (merged ks c.as_slice.result.now)) c.new.ensures.items ∙ ap (λ l. take limit (merged [] l)) (c.as_slice.ensures.value ∙ c.in_ok-held.ensures.held)
    ∙ memory_rows c.self.inside.rows.entries c.args.table c.args.from.now c.args.below.now limit c.held_in.ensures.ordered
    ∙ ap (λ (m : Tables). take limit (rows_between m c.args.table c.args.from.now c.args.below.now)) tables

pub returns-clause-shown : goal.returns-clause-shown
returns-clause-shown c =
    let xs = c.self.inside.shown in
    let n = length c.in_ok-rows.rows.items in
    let was = ap (λ (k : InMemory). k.shown) c.self.view_is ∙ c.fails.ensures.shown in
    let len : c.len.result ≡ n = c.len.ensures ∙ c.in_ok-rows.rows.ok.0 in
    let now : slice_index xs c.args.table ≤ 2 ^ 64 - 1 = omega arith in
    counted_by xs c.args.table c.saturating_add.result n (omega arith) now (c.saturating_add.ensures ∙ ap (λ m. up_to_last (slice_index xs c.args.table + m)) len)
    ∙ ap (λ (l : List ℕ). more_shown c.args.table n (λ t. slice_index l t)) was
