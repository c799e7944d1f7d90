use Rattle.record_save.proofs.Stays.{staying_found}
use Rattle.record_save.proofs.staying.refused_by_old.Goals as goal

pub returns-in-Ok-clause-finds : goal.returns-in-Ok-clause-finds
returns-in-Ok-clause-finds c m = staying_found c.args.layout.now c.args.old.now c.args.new.now c.in-Ok.rule c.in-Ok.ensures m
