use Rattle.std.proofs.Common.{subst, sym}
use Rattle.retype_step.proofs.Types.{plain_fits}
use Rattle.retype_step.proofs.rows.switched_field.Goals as goal
use Rattle.store_codec.specs.Composed.{FitsType}

pub returns-clause-fits : goal.returns-clause-fits
returns-clause-fits c =
    let n = c.numbers_fit.ensures in
    let kind = subst FitsType (sym c.in_ok-kind.ensures) (plain_fits c.args.row.now.kind c.requires) in
    ((n.org, (n.object, n.field)), (c.in_ok-name.ensures.fits, (kind, (tt, (n.slot, c.in_ok-child.ensures.fits)))))
