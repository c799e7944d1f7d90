use Rattle.std.proofs.Common.{rules, length}
use Rattle.std.specs.Str.{chars}
use Rattle.formula_parser.proofs.Top.{reads_by, found_by, only_by, place_by}
use Rattle.formula.specs.grammar.Reading as spec
use Rattle.formula_parser.proofs.parsing.parse.Goals as goal

pub returns-clause-reads : goal.returns-clause-reads
returns-clause-reads c =
    reads_by c.args.criteria c.args.fields.now.items (chars c.args.text.now) (length c.args.text.now) c.in_ok-all.all c.in_ok-all.ensures
    c.as_slice-4.result.now (search rules) c.as_slice-5.result.now (search rules)
    c.at_end.result (c.at_end.ensures (spec.whole c.as_slice-4.result.now) c.whole.ensures)

pub returns-clause-found : goal.returns-clause-found
returns-clause-found c = found_by c.args.criteria c.args.fields.now.items (chars c.args.text.now) (length c.args.text.now) c.at_end.result (returns-clause-reads c)

pub returns-clause-only : goal.returns-clause-only
returns-clause-only c = only_by c.args.criteria c.args.fields.now.items (chars c.args.text.now) (length c.args.text.now) c.at_end.result (returns-clause-reads c)

pub returns-clause-place : goal.returns-clause-place
returns-clause-place c = place_by c.args.criteria c.args.fields.now.items (chars c.args.text.now) (length c.args.text.now) c.at_end.result (returns-clause-reads c)
