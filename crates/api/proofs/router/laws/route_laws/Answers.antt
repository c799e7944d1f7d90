use Rattle.api.proofs.Cuts.{cut, first-from, parts-text}
use Rattle.api.proofs.Plain.{plain-patterns}
use Rattle.api.proofs.RouteLaws.{find-passes, first-takes}
use Rattle.api.proofs.Walks.{first-picks}
use Rattle.api.proofs.router.laws.route_laws.Goals as goal

pub returns-clause-plain : goal.returns-clause-plain
returns-clause-plain c = plain-patterns

pub returns-clause-picks : goal.returns-clause-picks
returns-clause-picks c = first-picks

pub returns-clause-cuts : goal.returns-clause-cuts
returns-clause-cuts c = cut

pub returns-clause-finds : goal.returns-clause-finds
returns-clause-finds c = first-from

pub returns-clause-takes : goal.returns-clause-takes
returns-clause-takes c = first-takes

pub returns-clause-passes : goal.returns-clause-passes
returns-clause-passes c = find-passes

pub returns-clause-texts : goal.returns-clause-texts
returns-clause-texts c = parts-text
