use Rattle.std.proofs.Common.{refl}
use Rattle.std.specs.Str.{chars}
use Rattle.api_output.proofs.states.phase_name.Goals as goal

pub returns-in-Copy : goal.returns-in-Copy
unfolding chars
returns-in-Copy c = rw c.in-Copy.is refl

pub returns-in-Clear : goal.returns-in-Clear
unfolding chars
returns-in-Clear c = rw c.in-Clear.is refl

pub returns-in-Done : goal.returns-in-Done
unfolding chars
returns-in-Done c = rw c.in-Done.is refl
