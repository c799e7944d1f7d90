use Rattle.std.proofs.Common.{ap}
use Rattle.base_lemmas.proofs.Numbers.{slice_index-replicate_zero as zeros}
use Rattle.store_kv.specs.Memory.{tables_in}
use Rattle.store_kv.proofs.memory.MemoryKeeper.new.Goals as goal

pub returns-clause-no_rows : goal.returns-clause-no_rows
unfolding tables_in
returns-clause-no_rows c = ap tables_in c.new.ensures.empty

pub returns-clause-none_shown : goal.returns-clause-none_shown
returns-clause-none_shown c = zeros 256
