use Rattle.model.proofs.Names.{name_short, name_text}
use Rattle.model.proofs.laws.name_laws.Goals as goal

pub returns : goal.returns
returns c = record { text = name_text; short = name_short }
