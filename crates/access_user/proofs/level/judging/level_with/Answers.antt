use Rattle.std.proofs.Common.{◌∙◌, ap, subst, sym}
use Rattle.access_user.specs.level.Own.{MembersFor, greater}
use Rattle.model.specs.Levels.{has_hierarchy}
use Rattle.access_user.proofs.Whole.{members_are, with_is}
use Rattle.access_user.proofs.level.judging.level_with.Goals as goal

pub returns : goal.returns
returns c = λ org its t u o r is at known apart shares.
    let people = c.args.sharer.now.people in
    let members = subst (MembersFor (has_hierarchy t r) people u.id) (sym c.as_ref.ensures.value) (members_are t u r o at people c.args.own.now known) in
    c.greater.ensures ∙ ap (greater c.args.apart) (c.by_shares.ensures (has_hierarchy t r) org t u is members) ∙ with_is t u r its c.args.apart c.args.shares.now apart shares
