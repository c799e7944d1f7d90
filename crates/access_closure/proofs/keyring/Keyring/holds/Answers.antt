use Rattle.std.proofs.Common.{◌∙◌, refl}
use Rattle.access_closure.proofs.Reaching.{in_order}
use Rattle.access_closure.proofs.keyring.Keyring.holds.Goals as goal

pub returns : goal.returns
returns c = λ org t u among k. c.holds.ensures (in_order org t c.args.people.now among.rows among.sound) ∙ k.held org t u among refl c.args.principal.now
