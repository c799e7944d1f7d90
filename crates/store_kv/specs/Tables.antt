-- The rows of a keeper as one finite map, and what changes make of it.
use Rattle.std.specs.Prelude.{ℕ, Bool, ◌&&◌, ◌==◌, if◌then◌else◌, List, [], ◌∷◌, Option, Some, T, IsTrue, map as plain_map, ◌≡◌, ◌⊎◌}
use Rattle.std.specs.declared.cmp.Ordering.{Ordering}
use Rattle.std.specs.Ordering.{nat_cmp, ordering_then, is_ge, is_lt}
use Rattle.std.specs.Cmp.Lexicographic.{slice_cmp}
use Rattle.std.specs.FinMap as map
use Rattle.std.specs.FinMap.{FinMap}
use Rattle.store_kv.specs.declared.keeper.KeptRow.{KeptRow}
use Rattle.store_kv.specs.declared.keeper.Change.{Change}
use Rattle.store_kv.specs.declared.keeper.Change.TheVariants.{Put, Remove}

-- a table's number and a key
abbrev pub Place : Type 0
Place = ℕ × List ℕ

-- keys are ordered as bytes
abbrev pub bytes_cmp : List ℕ → List ℕ → Ordering
bytes_cmp = slice_cmp nat_cmp

-- by table, and then by the key's bytes
abbrev pub place_cmp : Place → Place → Ordering
place_cmp a b = ordering_then (nat_cmp a.0 b.0) (bytes_cmp a.1 b.1)

-- the rows of all tables, by their places
abbrev pub Tables : Type 0
Tables = FinMap place_cmp (List ℕ)

-- tables without a row
abbrev pub no_rows : Tables
no_rows = map.empty

-- the row of a key
abbrev pub row_at : Tables → ℕ → List ℕ → Option (List ℕ)
row_at m table key = map.get m (table, key)

-- from <= key < below
abbrev pub is_between : List ℕ → List ℕ → List ℕ → Bool
is_between from below key = is_ge (bytes_cmp key from) && is_lt (bytes_cmp key below)

-- a place of this table in the interval
abbrev pub is_in : ℕ → List ℕ → List ℕ → Place → Bool
is_in table from below place = (place.0 == table) && is_between from below place.1

-- an entry of the map as a row with its key
abbrev pub shown_row : Place × List ℕ → KeptRow
shown_row e = record { key = e.0.1; row = e.1 }

-- the rows of those entries that are in the interval
abbrev pub rows_among : ℕ → List ℕ → List ℕ → List (Place × List ℕ) → List KeptRow
rows_among table from below [] = []
rows_among table from below (e ∷ es) = if is_in table from below e.0 then shown_row e ∷ rows_among table from below es else rows_among table from below es

-- the rows of a table with from <= key < below, in the order of their keys
unfoldable pub rows_between : Tables → ℕ → List ℕ → List ℕ → List KeptRow
rows_between m table from below = rows_among table from below (map.entries m)

-- the tables once a change is made
abbrev pub after_change : Change → Tables → Tables
after_change (Put table key row) m = map.insert m (table, key) row
after_change (Remove table key) m = map.remove m (table, key)

-- the tables once changes are made, the first change first
abbrev pub after : List Change → Tables → Tables
after [] m = m
after (c ∷ cs) m = after cs (after_change c m)

-- x is in the list
abbrev pub Has : {X : Type 0} → List X → X → Type 0
Has [] x = ⊥
Has (y ∷ ys) x = (x ≡ y) ⊎ Has ys x

-- a row of a table as an entry of the map
abbrev pub entry_of : ℕ → KeptRow → Place × List ℕ
entry_of table row = ((table, row.key), row.row)

-- these are the rows of a table in the interval, by their keys, each once, and no other
pub record IsListing (m : Tables) (table : ℕ) (from below : List ℕ) (rows : List KeptRow) : Type 0 where
  pub rises : T (map.is_sorted place_cmp (plain_map (entry_of table) rows))
  pub sound : (r : KeptRow) → Has rows r → IsTrue (is_between from below r.key) × (row_at m table r.key ≡ Some r.row)
  pub complete : (key row : List ℕ) → IsTrue (is_between from below key) → row_at m table key ≡ Some row → Has rows (record { key = key; row = row })
