use Rattle.query_plan.proofs.Found.{found_is}
use Rattle.query_plan.proofs.laws.plan_laws.Goals as goal

pub returns : goal.returns
returns c = record { found = found_is }
