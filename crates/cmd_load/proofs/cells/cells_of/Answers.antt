use Rattle.std.proofs.Common.{◌≡◌, ◌++◌, ◌∷◌, [], Bor, List, map, rules, ℕ}
use Rattle.std.proofs.lemmas.List.{map_push}
use Rattle.csv.specs.Records.{fields_of}
use Rattle.cmd_load.proofs.CellByCell.{one_more}
use Rattle.cmd_load.proofs.cells.cells_of.Goals as goal

pub loop-place-preserved : goal.loop-place-preserved
loop-place-preserved c =
    let pushed : c.push.new.self.items ≡ c.loop-place.cells.items ++ c.cell_at.result ∷ [] = search rules in
    let taken = map_push (λ (s : Bor (List ℕ)). s.now) c.loop-place.cells.items c.cell_at.result in
    rw (pushed, taken)
    (one_more (map (λ (s : Bor (List ℕ)). s.now) c.loop-place.cells.items) (fields_of c.args.row.now) c.loop-place.place c.cell_at.result.now (search rules) c.cell_at.ensures c.loop-place.invariant)
