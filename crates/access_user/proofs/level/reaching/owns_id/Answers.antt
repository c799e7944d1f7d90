use Rattle.std.proofs.Common.{◌≡◌, ◌∙◌, ◌||◌, ◌&&◌, ℕ, Bool, List, ap, bytes_eq, false, subst, sym, true}
use Rattle.std.specs.Prelude.{option_copied}
use Rattle.access_closure.specs.Keyrings.{IsMembershipOf}
use Rattle.access_user.specs.level.Own.{MembersFor}
use Rattle.model.specs.Cases.{in_case}
use Rattle.model.specs.Membership.{is_above}
use Rattle.model.specs.Tenant.{Tenant, User}
use Rattle.model.specs.World.{user_at}
use Rattle.access_user.proofs.Alone.{among, own_alone}
use Rattle.access_user.proofs.level.reaching.owns_id.Goals as goal

-- whose an id is, where the role hierarchy counts or doesn't
abbrev is_own : Bool → Tenant → User → List ℕ → Bool
is_own h t u i = in_case (user_at t.users i) false (λ x. bytes_eq x.id u.id || (h && is_above t u x))

pub returns-in-Some : goal.returns-in-Some
returns-in-Some c = λ h org t u is made.
    let s = c.args.sharer.now in
    let i = c.args.id.now in
    let its : (h ≡ false) × IsMembershipOf s.people u.id c.in-Some.members.now = subst (MembersFor h s.people u.id) (ap option_copied c.in-Some.is) made in
    c.is_member.ensures org t u (among org t u s is) its.1 ∙ own_alone t u i is.user ∙ sym (ap (λ (b : Bool). is_own b t u i) its.0)

pub returns-in-None : goal.returns-in-None
returns-in-None c = λ h org t u is made.
    let its : h ≡ true = subst (MembersFor h c.args.sharer.now.people u.id) (ap option_copied c.in-None.is) made in
    c.owns.ensures org t u is.sharer is.sound is.user ∙ sym (ap (λ (b : Bool). is_own b t u c.args.id.now) its)
