use Rattle.std.proofs.Common.{refl}
use Rattle.std.proofs.lemmas.Str.{chars-nil}
use Rattle.record_read.proofs.decoding.text_of.Goals as goal

pub returns-in-None : goal.returns-in-None
returns-in-None c = rw (chars-nil, c.in-None.is) refl
