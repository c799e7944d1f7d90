use Rattle.std.proofs.Common.{◌≡◌, ◌≤◌, length}
use Rattle.base_grammar.specs.Reader.{with_front}
use Rattle.soql.specs.grammar.Readers as spec
use Rattle.soql_parser.proofs.items.more_paths.Given as goal

abbrev pub invariant-items : goal.invariant-items
invariant-items l = record {
  same : with_front l.all (spec.more_paths l.rest) ≡ with_front l.fn.all (spec.more_paths l.fn.signs);
  shorter : length l.rest ≤ length l.fn.signs;
}

abbrev pub decreases-items : goal.decreases-items
decreases-items l = length l.rest
