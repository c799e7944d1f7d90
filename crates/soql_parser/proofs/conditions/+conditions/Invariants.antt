use Rattle.std.proofs.Common.{◌≡◌, ◌≤◌, ◌+◌, ◌*◌, length}
use Rattle.base_grammar.specs.Reader.{with_front}
use Rattle.soql.specs.grammar.Readers as spec
use Rattle.soql.specs.grammar.Signs.{number}
use Rattle.soql_parser.proofs.conditions.+conditions.Given as goal

abbrev pub decreases-unit : goal.decreases-unit
decreases-unit l = 10 * l.levels

abbrev pub decreases-another : goal.decreases-another
decreases-another l = 10 * l.levels + 1

abbrev pub decreases-more_units : goal.decreases-more_units
decreases-more_units l = 10 * l.levels + 2

abbrev pub decreases-joined : goal.decreases-joined
decreases-joined l = 10 * l.levels + 3

abbrev pub decreases-conjunction : goal.decreases-conjunction
decreases-conjunction l = 10 * l.levels + 4

abbrev pub decreases-disjunction : goal.decreases-disjunction
decreases-disjunction l = 10 * l.levels + 4

abbrev pub decreases-chain : goal.decreases-chain
decreases-chain l = 10 * l.levels + 5

abbrev pub decreases-cond_of : goal.decreases-cond_of
decreases-cond_of l = 10 * l.levels + 6

abbrev pub decreases-group : goal.decreases-group
decreases-group l = 10 * l.levels + 7

abbrev pub decreases-negation : goal.decreases-negation
decreases-negation l = 10 * l.levels + 7

abbrev pub decreases-inner : goal.decreases-inner
decreases-inner l = 10 * l.levels + 8

abbrev pub invariant-more_units-units : goal.invariant-more_units-units
invariant-more_units-units l = record {
  same : with_front l.all (spec.more_units (spec.unit l.levels) (number l.word) l.rest) ≡ with_front l.fn.all (spec.more_units (spec.unit l.levels) (number l.word) l.fn.signs);
  shorter : length l.rest ≤ length l.fn.signs;
}

abbrev pub decreases-more_units-units : goal.decreases-more_units-units
decreases-more_units-units l = length l.rest
