-- Tables that have certain rows.
use Rattle.std.specs.Prelude.{◌≡◌, ℕ, Bool, if◌then◌else◌, List, Option, Some, IsTrue}
use Rattle.std.specs.FinMap as map
use Rattle.store_kv.specs.Tables.{Place, Tables}
use Rattle.store_rows.specs.Keys.{Key, spell, FitsKey, key_eq}

-- the tables that are reached have exactly these rows
pub record Holds (reach : ℕ → Bool) (m : Tables) (rows : Key → Option (List ℕ)) : Type 0 where
  pub at : (k : Key) → FitsKey k → map.get m (spell k) ≡ rows k
  pub only : (place : Place) (row : List ℕ) → IsTrue (reach place.0) → map.get m place ≡ Some row → (k : Key) × FitsKey k × (place ≡ spell k)

-- the rows once one is set, or taken away
abbrev pub with_row : Key → Option (List ℕ) → (Key → Option (List ℕ)) → Key → Option (List ℕ)
with_row k row rows q = if key_eq q k then row else rows q
