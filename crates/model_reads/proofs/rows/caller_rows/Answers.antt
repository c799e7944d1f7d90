use Rattle.std.proofs.Common.{refl}
use Rattle.model.proofs.Computing.{computing}
use Rattle.model_reads.proofs.rows.caller_rows.Goals as goal

pub returns-clause-caller : goal.returns-clause-caller
unfolding computing
returns-clause-caller c = refl

pub returns-clause-versions : goal.returns-clause-versions
unfolding computing
returns-clause-versions c = refl

pub returns-clause-principals : goal.returns-clause-principals
unfolding computing
returns-clause-principals c = refl

pub returns-clause-limit : goal.returns-clause-limit
unfolding computing
returns-clause-limit c = refl
