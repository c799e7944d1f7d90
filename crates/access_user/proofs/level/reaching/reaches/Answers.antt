use Rattle.std.proofs.Common.{◌≡◌, ◌∙◌, Bool, ap, false, subst, sym, true}
use Rattle.std.specs.Prelude.{option_copied}
use Rattle.access_closure.specs.Keyrings.{IsMembershipOf}
use Rattle.access_user.specs.level.Own.{MembersFor}
use Rattle.model.specs.Membership.{reaches_on}
use Rattle.access_user.proofs.Alone.{among}
use Rattle.access_user.proofs.level.reaching.reaches.Goals as goal

pub returns-in-Some : goal.returns-in-Some
returns-in-Some c = λ h org t u is made.
    let s = c.args.sharer.now in
    let its : (h ≡ false) × IsMembershipOf s.people u.id c.in-Some.members.now = subst (MembersFor h s.people u.id) (ap option_copied c.in-Some.is) made in
    c.is_member.ensures org t u (among org t u s is) its.1 ∙ sym (ap (λ (b : Bool). reaches_on b t c.args.principal.now u) its.0)

pub returns-in-None : goal.returns-in-None
returns-in-None c = λ h org t u is made.
    let its : h ≡ true = subst (MembersFor h c.args.sharer.now.people u.id) (ap option_copied c.in-None.is) made in
    c.reaches.ensures org t u is.sharer is.sound is.user ∙ sym (ap (λ (b : Bool). reaches_on b t c.args.principal.now u) its)
