use Rattle.query_plan.proofs.Ranking.{rank_is_order}
use Rattle.query_plan.proofs.order.laws.rank_laws.Goals as goal

pub returns : goal.returns
returns c = record { order = rank_is_order }
