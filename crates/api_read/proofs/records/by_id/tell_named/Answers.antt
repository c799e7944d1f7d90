use Rattle.std.proofs.Common.{subst, sym}
use Rattle.model_reads.specs.Told.{Telling}
use Rattle.api_read.specs.Tells.{TellsSo}
use Rattle.api_read.proofs.RecordsTold.{spelled_told, unspelled_told}
use Rattle.api_read.proofs.records.by_id.tell_named.Goals as goal

pub returns-in-Ok-clause-tells : goal.returns-in-Ok-clause-tells
returns-in-Ok-clause-tells g c told q a o s hers of =
    subst (λ (telling : Telling). TellsSo telling c.tell_at.result) (sym (spelled_told a o c.args.key.now c.args.pairs.now c.in-Ok.id c.in-Ok.ensures.spells))
    (c.tell_at.ensures.tells told q a o s hers of)

pub returns-in-Err-clause-tells : goal.returns-in-Err-clause-tells
returns-in-Err-clause-tells g c told q a o s hers of = unspelled_told a o c.args.key.now c.args.pairs.now c.in-Err.fail c.in-Err.ensures.spells
