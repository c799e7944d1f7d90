use Rattle.access_user.proofs.Owners.{owner_rules_are}
use Rattle.access_user.proofs.level.judging.by_owner.Goals as goal

pub returns-in-Some : goal.returns-in-Some
returns-in-Some c = owner_rules_are c.args.sharer.now c.args.rules.now c.args.item.now c.in-Some.owner c.in-Some.is c.by_owner_rules.result c.by_owner_rules.ensures
