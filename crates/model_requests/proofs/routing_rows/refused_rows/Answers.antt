use Rattle.std.proofs.Common.{refl}
use Rattle.model.proofs.Computing.{computing}
use Rattle.model_requests.proofs.routing_rows.refused_rows.Goals as goal

pub returns : goal.returns
unfolding computing
returns c = record { refused = refl }
