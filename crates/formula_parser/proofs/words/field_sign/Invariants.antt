use Rattle.std.proofs.Common.{◌≡◌, ◌+◌, length}
use Rattle.formula.specs.grammar.Signs as spec
use Rattle.formula_parser.proofs.words.field_sign.Given as goal

abbrev pub invariant-fields : goal.invariant-fields
invariant-fields l = record {
  same : spec.field_sign l.position l.rest l.text ≡ spec.field_sign 0 l.fn.fields l.text;
  room : l.position + length l.rest ≡ length l.fn.fields;
}

abbrev pub decreases-fields : goal.decreases-fields
decreases-fields l = length l.rest
