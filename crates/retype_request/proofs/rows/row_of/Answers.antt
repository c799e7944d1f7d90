use Rattle.std.proofs.Common.{◌∙◌, sym}
use Rattle.retype_request.proofs.Begun.{row_fits}
use Rattle.retype_request.proofs.rows.row_of.Goals as goal

pub returns-clause-fits : goal.returns-clause-fits
returns-clause-fits c =
    row_fits c.args.org c.args.object c.args.field c.args.kind c.args.twin c.args.phase c.args.outcome c.ranges.org.fits c.ranges.object.fits c.ranges.field.fits c.ranges.twin.fits
    (sym c.is_type.ensures ∙ c.if-not-is_type.false) (sym c.is_reference.ensures ∙ c.if-is_reference.false)
