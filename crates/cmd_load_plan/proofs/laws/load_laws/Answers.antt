use Rattle.cmd_load_plan.proofs.Planning.{plan_alike}
use Rattle.cmd_load_plan.proofs.laws.load_laws.Goals as goal

pub returns : goal.returns
returns c org q t o heading = plan_alike org q t o heading
