use Rattle.std.proofs.Common.{◌∙◌, refl}
use Rattle.base_value.specs.declared.sharing.Principal.TheVariants.{User}
use Rattle.access_closure.proofs.Reaching.{in_order, owns_is}
use Rattle.access_closure.proofs.keyring.Keyring.owns.Goals as goal

pub returns : goal.returns
returns c = λ org t u among k.
    c.holds.ensures (in_order org t c.args.people.now among.rows among.sound)
    ∙ k.held org t u among refl (User c.args.id.now)
    ∙ owns_is org t c.args.people.now among.rows among.sound u among.user c.access_laws.ensures.reaches c.access_laws.ensures.above c.args.id.now
