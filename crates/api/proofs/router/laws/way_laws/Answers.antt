use Rattle.api.proofs.WayLaws.{lines-answer, lines-path, lines-none}
use Rattle.api.proofs.router.laws.way_laws.Goals as goal

pub returns-clause-answers : goal.returns-clause-answers
returns-clause-answers c = λ method segments parts p lines d f. (lines-answer method segments parts p lines d f, lines-path segments parts p lines d f)

pub returns-clause-lacks : goal.returns-clause-lacks
returns-clause-lacks c = λ method segments table lines a e. lines-none method segments table lines a e
