use Rattle.std.proofs.Common.{refl}
use denote.Hole.Carrier.{hidden}
use Rattle.formula.specs.declared.formula.Formula.TheBlock.{hidden-the_row-Formula-0, hidden-the_row-Formula-1}
use Rattle.formula.proofs.worked.logic_rows.Goals as goal

pub returns : goal.returns
unfolding hidden-the_row-Formula-0 hidden-the_row-Formula-1 hidden
returns c = record { always = refl; never = refl; negated = refl; negated_twice = refl; all_true = refl; all_but_one = refl; only_one = refl; some_true = refl; none_true = refl; less_than_before = refl; taken_away = refl; more_than_before = refl; not_there_before = refl }
