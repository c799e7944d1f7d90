-- Rows and gaps laid over a keeper's rows.
use Rattle.std.specs.Prelude.{ℕ, ◌+◌, List, [], ◌∷◌, Option, Some, None, if◌then◌else◌, ◌==◌}
use Rattle.std.specs.FinMap as map
use Rattle.store_kv.specs.Tables.{Place, Tables}

-- a place and the row to be there, or no row
abbrev pub Entry : Type 0
Entry = Place × Option (List ℕ)

-- the tables once this row, or none, is at the place
abbrev pub row_laid : Place → Option (List ℕ) → Tables → Tables
row_laid p (Some r) m = map.insert m p r
row_laid p None m = map.remove m p

-- the tables once each entry's row is at its place; of two at one place the first counts
abbrev pub laid : List Entry → Tables → Tables
laid [] m = m
laid (e ∷ es) m = row_laid e.0 e.1 (laid es m)

-- 1 where there is no row
abbrev pub gap : Option (List ℕ) → ℕ
gap (Some r) = 0
gap None = 1

-- how many rows of a table the entries remove
abbrev pub removals : ℕ → List Entry → ℕ
removals t [] = 0
removals t (e ∷ es) = (if e.0.0 == t then gap e.1 else 0) + removals t es
