use Rattle.model_reads.specs.RecordJson.{record_asked}
use Rattle.api_read.proofs.RecordsFound.{none_told, record_told_so}
use Rattle.api_read.proofs.records.finding.tell_found.Goals as goal

pub returns-in-Ok-clause-tells : goal.returns-in-Ok-clause-tells
returns-in-Ok-clause-tells g c told q a o x s hers of found =
    let l = c.args.layout.now in
    record_told_so q a o l x c.in-Ok.readable c.args.pairs.now c.record_asked.result s.sound c.data_laws.ensures.printable of c.requires
    (c.in-Ok.ensures.finds told q a x s hers found) c.record_asked.ensures.tells

pub returns-in-Err-clause-tells : goal.returns-in-Err-clause-tells
returns-in-Err-clause-tells g c told q a o x s hers of found =
    none_told a c.args.layout.now.object x (record_asked a o.object c.args.pairs.now) c.in-Err.fail (c.in-Err.ensures.finds told q a x s hers found)
