use Rattle.std.proofs.Common.{arith}
use Rattle.schema_edit.proofs.edits.fields.field_row.Goals as goal

pub returns-clause-fits : goal.returns-clause-fits
returns-clause-fits c =
    let h = c.requires in
    ((h.0.0, (h.0.1, h.1.1.1.1.0)), (c.in_ok-name.ensures.fits, (c.in_ok-kind.ensures.fits, (tt, (omega arith, c.in_ok-child.ensures.fits)))))
