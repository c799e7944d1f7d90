use Rattle.std.proofs.Common.{refl}
use denote.Hole.Carrier.{hidden}
use Rattle.formula.specs.declared.formula.Formula.TheBlock.{hidden-the_row-Formula-0, hidden-the_row-Formula-1}
use Rattle.formula.proofs.worked.naming_rows.Goals as goal

pub returns : goal.returns
unfolding hidden-the_row-Formula-0 hidden-the_row-Formula-1 hidden
returns c = record { nothing = refl; tests = refl; terms = refl; twice = refl }
