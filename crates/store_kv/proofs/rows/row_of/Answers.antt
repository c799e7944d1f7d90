use Rattle.std.proofs.Common.{option_copied, sym, ap, ◌∙◌}
use Rattle.store_kv.proofs.Laid.{row_found, row_missing}
use Rattle.store_kv.proofs.rows.row_of.Goals as goal

pub returns-in-Some : goal.returns-in-Some
returns-in-Some c =
    c.as_ref.ensures.value ∙ row_found c.args.rows.now.entries c.args.place.now c.in-Some.held.now (sym c.get.ensures.value ∙ ap option_copied c.in-Some.is)

pub returns-in-None : goal.returns-in-None
returns-in-None c = row_missing c.args.rows.now.entries c.args.place.now (sym c.get.ensures.value ∙ ap option_copied c.in-None.is)
