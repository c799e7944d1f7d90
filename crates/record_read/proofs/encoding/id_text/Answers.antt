use Rattle.std.proofs.Common.{List, ℕ, sym, subst}
use Rattle.std.specs.Str.{IsAscii}
use Rattle.record_read.proofs.Ids.{id_ascii}
use Rattle.record_read.proofs.encoding.id_text.Goals as goal

pub ascii_text-requires : goal.ascii_text-requires
ascii_text-requires c = subst (λ (bs : List ℕ). IsAscii bs) (sym c.as_bytes.ensures.characters) (id_ascii c.args.id.now c.as_bytes.ensures.id)
