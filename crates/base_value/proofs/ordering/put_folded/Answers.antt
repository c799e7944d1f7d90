use Rattle.std.proofs.Common.{sym, ap, ◌∙◌}
use Rattle.std.specs.Str.{all_scalars}
use Rattle.std.proofs.lemmas.Str.{scalars-chars}
use Rattle.base_value.proofs.ordering.put_folded.Goals as goal

pub returns-clause-scalars : goal.returns-clause-scalars
returns-clause-scalars c = ap all_scalars (sym c.as_str.ensures.characters) ∙ scalars-chars c.as_str.result.now c.as_str.utf8
