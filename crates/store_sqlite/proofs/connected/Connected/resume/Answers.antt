use Rattle.base_lemmas.proofs.Numbers.{slice_index-replicate_zero as zeros}
use Rattle.store_sqlite.proofs.connected.Connected.resume.Goals as goal

pub returns-clause-shown : goal.returns-clause-shown
returns-clause-shown g c = zeros 256
