use Rattle.std.proofs.Common.{◌≡◌, true, sym, subst}
use Rattle.retype_step.proofs.Decided.{parts, plain_done}
use Rattle.retype_step.proofs.deciding.clear_step.Goals as goal
use Rattle.retype_step.specs.inner.Rows.{is_plain}
use Rattle.store_rows.specs.declared.job.JobRow.{JobRow}

pub alone-requires : goal.alone-requires
alone-requires c =
    subst (λ (r : JobRow). is_plain r.kind ≡ true) (sym c.in_ok-done_row-in-None.ensures)
    (plain_done c.args.org c.args.row c.args.layout.now c.args.field.now c.requires.ready)

pub move_on-requires-clause-converts : goal.move_on-requires-clause-converts
move_on-requires-clause-converts c = (parts c.args.row c.args.layout.now c.args.field.now c.requires.ready).converting
