use Rattle.std.specs.Str.{chars}
use Rattle.std.proofs.lemmas.Str.{scalars-chars}
use Rattle.record_input.proofs.Valid.{read_valid}
use Rattle.record_input.proofs.texts.read_text.Goals as goal

pub returns-clause-valid : goal.returns-clause-valid
returns-clause-valid c =
    let text = c.args.text.now in
    read_valid c.value_laws.ensures.read c.args.kind.now (chars text) c.read_value.result (scalars-chars text c.utf8.text) c.read_value.ensures
