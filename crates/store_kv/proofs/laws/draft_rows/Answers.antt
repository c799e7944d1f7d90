use Rattle.std.proofs.Common.{refl}
use Rattle.store_kv.specs.Memory.{memory_state}
use Rattle.store_kv.proofs.Calls.{draft_none}
use Rattle.store_kv.proofs.laws.draft_rows.Goals as goal

pub returns : goal.returns
returns c = record { told = λ d. (tt, refl); reads = draft_none memory_state 0 }
