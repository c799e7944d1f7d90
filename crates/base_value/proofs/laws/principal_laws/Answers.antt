use Rattle.base_value.specs.Principals.{principals_total}
use Rattle.base_value.proofs.PrincipalOrder.{same_principal}
use Rattle.base_value.proofs.laws.principal_laws.Goals as goal

pub returns : goal.returns
returns c = record { same = same_principal; total = principals_total }
