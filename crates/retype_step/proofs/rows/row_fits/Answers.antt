use Rattle.std.proofs.Common.{refl}
use Rattle.retype_step.proofs.Types.{plain_fits}
use Rattle.retype_step.proofs.rows.row_fits.Goals as goal

pub returns : goal.returns
returns c =
    let n = c.numbers_fit.ensures in
    (n.org, (n.object, (n.field, (plain_fits c.args.row.now.kind c.requires, (n.slot, (refl, (refl, (c.id_fits.ensures, c.id_fits-2.ensures))))))))
