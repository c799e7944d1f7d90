use Rattle.retype_step.proofs.Decided.{converts_so, parts, valid_each}
use Rattle.retype_step.proofs.deciding.copy_page.Goals as goal

pub first_bad-requires-clause-convertible : goal.first_bad-requires-clause-convertible
first_bad-requires-clause-convertible c = converts_so c.args.row c.args.layout.now c.args.field.now c.requires.ready c.requires.copies

pub first_bad-requires-clause-valid : goal.first_bad-requires-clause-valid
first_bad-requires-clause-valid c = valid_each c.args.layout.now c.args.row.field c.args.field.now c.args.items.now c.requires.there c.requires.valid

pub move_on-requires-clause-converts : goal.move_on-requires-clause-converts
move_on-requires-clause-converts c = (parts c.args.row c.args.layout.now c.args.field.now c.requires.ready).converting
