use Rattle.std.specs.Str.{chars}
use Rattle.std.proofs.lemmas.Str.{scalars-chars}
use Rattle.record_read.proofs.decoding.read_slot.Goals as goal

pub returns-in-Ok-clause-valid : goal.returns-in-Ok-clause-valid
returns-in-Ok-clause-valid c =
    let text = c.text_of.result.now in
    c.value_laws.ensures.read c.args.kind.now (chars text) c.in-Ok.value (scalars-chars text c.text_of.utf8) c.in-Ok.ensures
