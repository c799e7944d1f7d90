use Rattle.std.proofs.Common.{◌≡◌, ◌≤◌, ◌+◌, ◌*◌, length}
use Rattle.base_grammar.specs.Reader.{with_front}
use Rattle.formula.specs.grammar.Reading as spec
use Rattle.formula_parser.proofs.reader.+formulas.Given as goal

abbrev pub decreases-nested : goal.decreases-nested
decreases-nested l = 10 * l.levels

abbrev pub decreases-another : goal.decreases-another
decreases-another l = 10 * l.levels + 1

abbrev pub decreases-more_formulas : goal.decreases-more_formulas
decreases-more_formulas l = 10 * l.levels + 2

abbrev pub decreases-formulas : goal.decreases-formulas
decreases-formulas l = 10 * l.levels + 3

abbrev pub decreases-negation : goal.decreases-negation
decreases-negation l = 10 * l.levels + 4

abbrev pub decreases-conjunction : goal.decreases-conjunction
decreases-conjunction l = 10 * l.levels + 4

abbrev pub decreases-disjunction : goal.decreases-disjunction
decreases-disjunction l = 10 * l.levels + 4

abbrev pub decreases-formula_over : goal.decreases-formula_over
decreases-formula_over l = 10 * l.levels + 5

abbrev pub invariant-more_formulas-formulas : goal.invariant-more_formulas-formulas
invariant-more_formulas-formulas l = record {
  same : with_front l.all (spec.more_formulas (spec.nested l.levels) l.rest) ≡ with_front l.fn.all (spec.more_formulas (spec.nested l.levels) l.fn.signs);
  shorter : length l.rest ≤ length l.fn.signs;
}

abbrev pub decreases-more_formulas-formulas : goal.decreases-more_formulas-formulas
decreases-more_formulas-formulas l = length l.rest
