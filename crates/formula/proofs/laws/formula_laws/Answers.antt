use Rattle.formula.proofs.Rows.{holds_not, holds_and, holds_or, names_not, names_and, names_or}
use Rattle.formula.proofs.laws.formula_laws.Goals as goal

pub returns : goal.returns
returns c = record {
  negation = λ f new old. holds_not new old f;
  all = λ fs new old. holds_and new old fs;
  some = λ fs new old. holds_or new old fs;
  within_not = names_not;
  within_and = names_and;
  within_or = names_or;
}
