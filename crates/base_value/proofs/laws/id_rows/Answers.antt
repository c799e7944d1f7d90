use Rattle.std.proofs.Common.{refl}
use Rattle.base_value.specs.Digits.{digits}
use Rattle.base_value.specs.Id.{made}
use Rattle.base_value.proofs.laws.id_rows.Goals as goal

pub returns-clause-first : goal.returns-clause-first
unfolding made digits
returns-clause-first c = refl

pub returns-clause-last : goal.returns-clause-last
unfolding made digits
returns-clause-last c = refl
