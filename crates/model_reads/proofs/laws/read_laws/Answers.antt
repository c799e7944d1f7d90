use Rattle.model_reads.specs.Reads.{told_of}
use Rattle.model_reads.proofs.Same.{telling_same}
use Rattle.model_reads.proofs.laws.read_laws.Goals as goal

pub returns : goal.returns
returns c = record { same = λ org a r. telling_same a.tenant (told_of org a r) }
