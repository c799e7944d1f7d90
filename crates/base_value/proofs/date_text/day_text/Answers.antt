use Rattle.std.proofs.Common.{arith, ◌∙◌, to_z-of_z, w16}
use Rattle.jiff_core.proofs.SignedLemmas.{back_small, signed_casts}
use Rattle.base_value.proofs.DateParts.{date_year, dated_day, small_year}
use Rattle.base_value.proofs.date_text.day_text.Goals as goal

pub returns : goal.returns
returns c =
    let date = c.date_of-date.result in
    let day = c.date_of-date.ensures ∙ to_z-of_z c.ranges.day in
    let year = date_year date c.args.day c.requires day in
    let same = back_small w16 date.year (small_year date) in
    rw (dated_day date c.args.day c.requires day) (rw same at c.date_text.ensures)

pub overflow_cast-date : goal.overflow_cast-date
overflow_cast-date c =
    let date = c.date_of-date.result in
    let year = date_year date c.args.day c.requires (c.date_of-date.ensures ∙ to_z-of_z c.ranges.day) in
    let same = back_small w16 date.year (small_year date) in
    rw same (omega (arith, signed_casts), omega (arith, signed_casts, date.year_in))
