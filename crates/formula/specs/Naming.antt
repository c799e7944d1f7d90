-- The positions of the fields that a formula names, in the order of its text, each as often as it is named there.
-- Source: none. It is this product's own, for the rules on fields that a formula needs.
use Rattle.std.specs.Prelude.{ℕ, List, [], ◌∷◌, ◌++◌}
use Rattle.formula.specs.declared.formula.Formula.{Formula, Const, IsNew, Not', And', Or', IsBlank, IsChanged, IsPickval, Compare, Row_of-Formula, end_of-Formula, more_of-Formula}
use Rattle.formula.specs.declared.formula.Term.{Term}
use Rattle.formula.specs.declared.formula.Term.TheVariants as term

-- those that a term names
abbrev pub term_names : Term → List ℕ
term_names (term.Field position) = position ∷ []
term_names (term.Len position) = position ∷ []
term_names (term.Prior position) = position ∷ []
term_names _ = []

-- those that a formula names
abbrev mutual
  pub names : Formula → List ℕ
  names (Const truth) = []
  names IsNew = []
  names (Not' shape part) = all_names part
  names (And' shape parts) = all_names parts
  names (Or' shape parts) = all_names parts
  names (IsBlank position) = position ∷ []
  names (IsChanged position) = position ∷ []
  names (IsPickval position cs) = position ∷ []
  names (Compare left relation right) = term_names left ++ term_names right

  -- those that the formulas within another name
  pub all_names : {n : _} → Row_of-Formula n → List ℕ
  all_names end_of-Formula = []
  all_names (more_of-Formula part rest) = names part ++ all_names rest
