-- The rows of an interval, in the order of their keys, and the interval of a prefix.
use Rattle.std.specs.Prelude.{◌≡◌, ℕ, List, [], Option, Some, None, T, IsTrue, map as plain_map}
use Rattle.std.specs.FinMap as map
use Rattle.store_kv.specs.declared.keeper.KeptRow.{KeptRow}
use Rattle.store_kv.specs.Tables.{Tables, bytes_cmp, is_between, rows_between, Has}
use Rattle.store_kv.specs.Walks.{next_above}
use Rattle.store_rows.specs.Forms.{Form, key_of, key_bytes, row_bytes, FitsForm}
use Rattle.store_rows.specs.Keys.{Key, spell, FitsKey}

-- where a walk goes on: at the beginning, or above a key
abbrev pub start_of : List ℕ → Option (List ℕ) → List ℕ
start_of prefix None = prefix
start_of prefix (Some key) = next_above key

-- the rows from a key on, up to the keys that are above all with a prefix. Where each byte of the prefix is 255 there is no key
-- above them, and there are none: no organisation has such a number
abbrev pub rows_to : Tables → ℕ → List ℕ → Option (List ℕ) → List KeptRow
rows_to m table from (Some above) = rows_between m table from above
rows_to m table from None = []

module _ {U : Type 0} (f : Form U) where
  abbrev pub with_key : U → List ℕ × U
  with_key u = (key_bytes f u, u)

  -- these are the rows of an interval, in the order of their keys, and no other
  pub record ListsBetween (rows : Key → Option (List ℕ)) (from below : List ℕ) (listed : List U) : Type 0 where
    pub rises : T (map.is_sorted bytes_cmp (plain_map with_key listed))
    pub sound : (u : U) → Has listed u → FitsForm f u × IsTrue (is_between from below (key_bytes f u)) × (rows (key_of f u) ≡ Some (row_bytes f u))
    pub complete : (k : Key) (row : List ℕ) → FitsKey k → (spell k).0 ≡ f.table → IsTrue (is_between from below (spell k).1) → rows k ≡ Some row → (u : U) × Has listed u × (key_of f u ≡ k)

  -- the same from a key on: up to the keys above all with a prefix, or none where there is no key above these
  abbrev pub ListsTo : (Key → Option (List ℕ)) → List ℕ → Option (List ℕ) → List U → Type 0
  ListsTo rows from (Some above) listed = ListsBetween rows from above listed
  ListsTo rows from None listed = listed ≡ []
