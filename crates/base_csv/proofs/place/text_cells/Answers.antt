use Rattle.std.proofs.Common.{◌∙◌, sym, arith}
use Rattle.csv.specs.Records.{fields_of}
use Rattle.base_csv.proofs.Cells.{is_bad, is_good, none_there}
use Rattle.base_csv.proofs.place.text_cells.Goals as goal

pub returns-in_default : goal.returns-in_default
returns-in_default c = absurd (none_there (fields_of c.args.cells.now) c.loop-i.i (sym c.in_default.ensures.value) (omega (arith, c.loop-i-test.true, c.len-i-end.ensures)))

pub returns-then-not-is_text : goal.returns-then-not-is_text
returns-then-not-is_text c = is_bad (fields_of c.args.cells.now) c.loop-i.i c.in-Some.cell.now (sym c.in-Some.ensures.value) (sym c.is_text.ensures ∙ c.if-not-is_text.true) c.loop-i.invariant

pub loop-i-preserved : goal.loop-i-preserved
loop-i-preserved c = is_good (fields_of c.args.cells.now) c.loop-i.i c.in-Some.cell.now (sym c.in-Some.ensures.value) (sym c.is_text.ensures ∙ c.if-not-is_text.false) c.loop-i.invariant
