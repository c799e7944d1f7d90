use Rattle.std.proofs.Common.{◌∙◌, sym, ap}
use Rattle.std.specs.Option.{option_map}
use Rattle.retype_step.proofs.Decided.{last_is}
use Rattle.retype_step.proofs.deciding.last_id.Goals as goal
use Rattle.model.specs.declared.record.Record.{Record}

pub returns-in-Some : goal.returns-in-Some
returns-in-Some c =
    ap (option_map (λ (r : Record). r.id)) (c.in-Some.ensures.value) ∙ sym (last_is c.args.items.now)
