use Rattle.std.proofs.Common.{◌≡◌, List, Option, sym, subst, ℕ}
use Rattle.access_closure.specs.declared.membership.Membership.{Membership}
use Rattle.access_user.specs.level.Own.{MembersFor}
use Rattle.access_user.proofs.OfRows.{known_is}
use Rattle.access_user.proofs.level.knowing.own_levels.Goals as goal

pub returns : goal.returns
returns c = λ org q t u o is user rows there layout.
    let l = c.args.layout.now in
    let people = c.args.sharer.now.people in
    let members = c.in_ok-members.members in
    let made = subst (λ (i : List ℕ). MembersFor l.hierarchy people i members) user c.in_ok-members.ensures in
    let seen = λ (ms : Option Membership) (e : ms ≡ members). subst (MembersFor l.hierarchy people u.id) (sym e) made in
    known_is q t l o there layout people u org (record { base = c.by_access.result; members = members; criteria = c.in_ok-criteria.criteria; owners = c.in_ok-owners.owners }) c.args.rules.now rows c.by_access.ensures made
    (c.in_ok-criteria.ensures l.hierarchy org t u is (seen _ c.as_ref.ensures.value)) (c.in_ok-owners.ensures l.hierarchy org t u is (seen _ c.as_ref-2.ensures.value))
