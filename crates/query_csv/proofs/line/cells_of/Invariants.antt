use Rattle.std.proofs.Common.{◌≡◌, ◌++◌, drop, map}
use Rattle.std.specs.Str.{encode_utf8_all}
use Rattle.query_csv.proofs.line.cells_of.Given as goal

abbrev pub invariant-loop-cell : goal.invariant-loop-cell
invariant-loop-cell l = map (λ f. f.now) l.fields.items ++ map encode_utf8_all (drop l.cell-index l.cells) ≡ map encode_utf8_all l.cells
