-- Rows and entries as one listing. No public contract reaches these words.
use Rattle.std.specs.Prelude.{ℕ, ◌+◌, List, [], ◌∷◌, Option, Some, None, zero, suc, filter}
use Rattle.std.specs.Ordering.{match_ordering}
use Rattle.store_kv.specs.declared.keeper.KeptRow.{KeptRow}
use Rattle.store_kv.specs.Tables.{bytes_cmp, is_in}
use Rattle.store_kv.specs.Laid.{Entry, gap}

-- the entry's row, if it has one, and then the rows
abbrev pub shown_at : List ℕ → Option (List ℕ) → List KeptRow → List KeptRow
shown_at k (Some r) rows = record { key = k; row = r } ∷ rows
shown_at k None rows = rows

-- the same, of an entry
abbrev pub shown_first : Entry → List KeptRow → List KeptRow
shown_first e rows = shown_at e.0.1 e.1 rows

-- the rows of entries
abbrev pub shown_rows : List Entry → List KeptRow
shown_rows [] = []
shown_rows (e ∷ es) = shown_first e (shown_rows es)

-- a row and the rows after it, with entries laid over them
abbrev pub beside : KeptRow → (List Entry → List KeptRow) → List Entry → List KeptRow
beside k rest [] = k ∷ rest []
beside k rest (e ∷ es) = match_ordering (bytes_cmp k.key e.0.1) (k ∷ rest (e ∷ es)) (shown_first e (rest es)) (shown_first e (beside k rest es))

-- rows and entries, both in the order of their keys, as one listing
abbrev pub merged : List KeptRow → List Entry → List KeptRow
merged [] es = shown_rows es
merged (k ∷ ks) es = beside k (merged ks) es

-- the entries of a table's interval
abbrev pub within : ℕ → List ℕ → List ℕ → List Entry → List Entry
within t from below es = filter (λ e. is_in t from below e.0) es

-- how many rows are left to find after an entry
abbrev pub left : Option (List ℕ) → ℕ → ℕ
left (Some r) n = n
left None n = suc n

-- the entries up to the n-th that has a row
abbrev pub front : ℕ → List Entry → List Entry
front n [] = []
front zero (e ∷ es) = []
front (suc n) (e ∷ es) = e ∷ front (left e.1 n) es

-- how many entries have no row
abbrev pub gaps : List Entry → ℕ
gaps [] = 0
gaps (e ∷ es) = gap e.1 + gaps es
