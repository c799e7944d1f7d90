use Rattle.std.proofs.Common.{refl}
use Rattle.std.specs.Str.{chars}
use Rattle.api_output.proofs.states.outcome_name.Goals as goal

pub returns-in-Open : goal.returns-in-Open
unfolding chars
returns-in-Open c = rw c.in-Open.is refl

pub returns-in-Switched : goal.returns-in-Switched
unfolding chars
returns-in-Switched c = rw c.in-Switched.is refl

pub returns-in-Failed : goal.returns-in-Failed
unfolding chars
returns-in-Failed c = rw c.in-Failed.is refl

pub returns-in-Cancelled : goal.returns-in-Cancelled
unfolding chars
returns-in-Cancelled c = rw c.in-Cancelled.is refl
