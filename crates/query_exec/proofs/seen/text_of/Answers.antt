use Rattle.std.proofs.Common.{refl}
use Rattle.std.proofs.lemmas.Str.{chars-nil}
use Rattle.query_exec.proofs.seen.text_of.Goals as goal

pub returns-in-None : goal.returns-in-None
returns-in-None c = rw (chars-nil, c.in-None.is) refl
