use Rattle.std.proofs.Common.{◌≡◌, ◌∷◌, ◌++◌, drop, map}
use Rattle.csv.specs.Writing.{default_writer, fields_text, row_body}
use Rattle.base_csv.proofs.text.plain_text.Given as goal

abbrev pub invariant-loop-cell : goal.invariant-loop-cell
invariant-loop-cell l =
    l.text.items ++ fields_text default_writer (map (λ c. c.now) (drop l.cell-index l.rest)) ≡ row_body default_writer (l.first ∷ map (λ c. c.now) l.rest)
