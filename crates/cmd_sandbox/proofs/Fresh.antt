-- A draft as it begins.
use Rattle.std.proofs.Common.{◌≡◌, ◌∙◌, [], ap}
use Rattle.store_kv.specs.Draft.{Held, tables_of}
use Rattle.store_kv.specs.Laid.{laid}
use Rattle.store_kv.specs.Memory.{InMemory, memory_state, none_listed}
use Rattle.store_kv.specs.Tables.{no_rows}
use Rattle.cmd_sandbox.specs.Making.{NeverFails}

-- a draft without changes over tables without rows
pub no_tables : (d : Held InMemory) (k : InMemory) → d.changes.entries ≡ [] → d.keeper.now ≡ k → k.tables ≡ no_rows → tables_of memory_state d ≡ no_rows
no_tables d k empty same none = ap (λ es. laid es d.keeper.now.tables) empty ∙ ap (λ (x : InMemory). x.tables) same ∙ none

-- its keeper, in whose list no call is, never fails
pub never_fails : (d : Held InMemory) (k : InMemory) → d.keeper.now ≡ k → k.failing ≡ [] → NeverFails d
never_fails d k same none = ap (λ (x : InMemory). none_listed x.failing) same ∙ ap none_listed none
