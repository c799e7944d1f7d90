use Rattle.api_read.proofs.SharesTold.{unspelled_shares}
use Rattle.api_read.proofs.records.shares.SharesOfRecordRead.tell.Goals as goal

pub returns-in-Ok-clause-tells : goal.returns-in-Ok-clause-tells
returns-in-Ok-clause-tells g c told q a s hers = c.tell_shares.ensures.tells told q a c.args.self.now.record.now s hers c.in-Ok.ensures.spells

pub returns-in-Err-clause-tells : goal.returns-in-Err-clause-tells
returns-in-Err-clause-tells g c told q a s hers = unspelled_shares a c.args.self.now.record.now c.in-Err.fail c.in-Err.ensures.spells
