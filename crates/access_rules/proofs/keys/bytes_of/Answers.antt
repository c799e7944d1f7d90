use Rattle.std.proofs.Common.{subst, sym}
use Rattle.std.proofs.Math.Facts.{Fits-lt-pow}
use Rattle.base_value.specs.Bytes.{IsBytes}
use Rattle.access_rules.proofs.RuleTexts.{if_bytes}
use Rattle.access_rules.proofs.keys.bytes_of.Goals as goal

pub returns-clause-bytes : goal.returns-clause-bytes
returns-clause-bytes c = if_bytes c.from_slice.result c.as_bytes.result.now c.from_slice.ensures (subst IsBytes (sym c.as_bytes.ensures.value) (λ i. Fits-lt-pow (c.type_inv.text i)))
