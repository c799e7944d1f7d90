use Rattle.std.proofs.Common.{option_copied, sym, ap, ◌∙◌, Some}
use Rattle.store_kv.proofs.Laid.{gap_dropped}
use Rattle.store_kv.proofs.changes.drop_gap.Goals as goal

pub returns-in-Some-None : goal.returns-in-Some-None
returns-in-Some-None c =
    gap_dropped c.args.rows.now c.remove.new.self c.args.place.now (sym c.get.ensures.value ∙ ap option_copied c.in-Some-None.is ∙ ap Some c.in-Some-None.field-0-is) c.remove.ensures.updates
