use Rattle.std.proofs.Common.{◌≡◌, ◌+◌, drop, not}
use Rattle.std.specs.List.{position_or_len}
use Rattle.std.specs.Str.{is_utf8}
use Rattle.csv.specs.Records.{fields_of}
use Rattle.base_csv.proofs.place.text_cells.Given as goal

abbrev pub invariant-loop-i : goal.invariant-loop-i
invariant-loop-i l = position_or_len (λ cell. not (is_utf8 cell)) (fields_of l.cells) ≡ l.i + position_or_len (λ cell. not (is_utf8 cell)) (drop l.i (fields_of l.cells))
