-- The one table of the keeper, the map that its rows are, and what a keeper shows of its connection.
use Rattle.std.specs.Prelude.{◌≡◌, ◌⊎◌, slice_index, true, false, [], ◌∷◌, ◌++◌, None, codes, List, ℕ, pos, IsTrue}
use Rattle.std.specs.FinMap.{from_entries}
use Rattle.sqlite.specs.Collation.TheVariants.{Binary}
use Rattle.sqlite.specs.declared.types.Value.{Value}
use Rattle.sqlite.specs.declared.types.Value.TheVariants.{Null, Int}
use Rattle.sqlite.specs.Order.{Row, column, bytes}
use Rattle.sqlite.specs.Table.{Table}
use Rattle.sqlite.specs.Schema.{Schema}
use Rattle.sqlite.specs.Kind.TheVariants as kind
use Rattle.sqlite_value.specs.Keys.{plain}
use Rattle.sqlite.specs.Change.{created}
use Rattle.sqlite.specs.Tree.{Trees}
use Rattle.sqlite_trees.specs.View.{IsShaped}
use Rattle.sqlite_trees.specs.declared.store.Shape.TheVariants as shape
use Rattle.sqlite.specs.Effect.{IsDatabase}
use Rattle.sqlite.specs.State.{State}
use Rattle.sqlite.specs.Held.{Held, state}
use Rattle.sqlite.specs.Store.{Ghosts}
use Rattle.sqlite_trees.specs.Objects.{catalog_tree}
use Rattle.store_kv.specs.State.{KeeperState}
use Rattle.store_kv.specs.Tables.{Place, Tables, no_rows}

-- the statement that makes the table: t is a table's number, k a key, r a row
abbrev pub create_text : List ℕ
create_text = codes "CREATE TABLE IF NOT EXISTS kept (t INTEGER NOT NULL, k BLOB NOT NULL, r BLOB NOT NULL, PRIMARY KEY (t, k)) STRICT"

-- the row of a key
abbrev pub get_text : List ℕ
get_text = codes "SELECT r FROM kept WHERE t = ?1 AND k = ?2"

-- the rows of an interval of keys, and at most so many
abbrev pub scan_text : List ℕ
scan_text = codes "SELECT k, r FROM kept WHERE t = ?1 AND k >= ?2 AND k < ?3 ORDER BY k LIMIT ?4"

-- sets the row of a key
abbrev pub put_text : List ℕ
put_text = codes "INSERT INTO kept (t, k, r) VALUES (?1, ?2, ?3) ON CONFLICT (t, k) DO UPDATE SET r = excluded.r"

-- removes the row of a key
abbrev pub remove_text : List ℕ
remove_text = codes "DELETE FROM kept WHERE t = ?1 AND k = ?2"

-- the name of one object that isn't of the table
abbrev pub others_text : List ℕ
others_text = codes "SELECT name FROM sqlite_schema WHERE tbl_name <> 'kept' LIMIT 1"

-- the table that `create_text` defines
abbrev pub kept : Table
kept = record {
  name = codes "kept";
  tree = 0;
  columns = (record { name = codes "t"; kind = kind.Integer; is_strict = true; not_null = true; default = Null; collation = Binary })
      ∷ (record { name = codes "k"; kind = kind.Blob; is_strict = true; not_null = true; default = Null; collation = Binary })
      ∷ (record { name = codes "r"; kind = kind.Blob; is_strict = true; not_null = true; default = Null; collation = Binary }) ∷ [];
  key = None;
  primary = 1 ∷ 2 ∷ [];
  uniques = (1 ∷ 2 ∷ []) ∷ [];
  orders = plain ∷ [];
  checks = [];
  references = [];
  computed = [];
  stamps = record { places = []; terms = []; formats = [] };
  is_counted = false;
}

-- a database without a table
abbrev pub no_schema : Schema
no_schema = record { tables = []; indexes = []; views = [] }

-- a database with that table alone
abbrev pub kept_schema : Schema
kept_schema = created no_schema kept

-- a place, and its row
abbrev pub Entry : Type 0
Entry = Place × List ℕ

-- what a row of the table is in the map, by the value of its column t: nothing if that is negative
-- (column 0 of a row is its number, column 1 is t, 2 is k and 3 is r)
abbrev pub entries_for : Value → Row → List Entry
entries_for (Int (pos n)) row = ((n, bytes (column row 2)), bytes (column row 3)) ∷ []
entries_for _ row = []

-- what all rows are
abbrev pub entries_in : List Row → List Entry
entries_in [] = []
entries_in (row ∷ rows) = entries_for (column row 1) row ++ entries_in rows

-- the map that the rows of the table are
unfoldable pub tables_in : Trees → Tables
tables_in db = from_entries (entries_in (db 0))

-- the same by the list of the database's objects: no rows if that is empty
abbrev pub map_by : List Row → Trees → Tables
map_by [] db = no_rows
map_by (row ∷ rows) db = tables_in db

-- the map of a database
unfoldable pub map_in : Trees → Tables
map_in db = map_by (db catalog_tree) db

-- between calls: nothing is pending, and the database has the one table, whose rows have each number once
pub record IsKept (s : State) : Type 0 where
  pub settled : s.now ≡ s.committed
  pub autocommit : s.in_transaction ≡ false
  pub schema : s.now.schema ≡ kept_schema
  pub sound : IsDatabase s.now
  pub shaped : IsShaped shape.Table (s.now.trees 0)

-- between calls: nothing is pending, and the database has no table
pub record IsBlank (s : State) : Type 0 where
  pub settled : s.now ≡ s.committed
  pub autocommit : s.in_transaction ≡ false
  pub schema : s.now.schema ≡ no_schema
  pub sound : IsDatabase s.now

-- one of the two
abbrev pub IsReady : State → Type 0
IsReady s = IsKept s ⊎ IsBlank s

-- what a keeper shows of its connection, of its count of refused calls and of its counts of rows: it tells its tables
-- while the connection is open and the database ready, and they are that database's map
abbrev pub keeper_state : {S : Type 0} → Ghosts S → Held S → ℕ → List ℕ → ℕ → KeeperState
keeper_state g c refusals shown written = record {
  tells = IsTrue (state g c).is_open × IsReady (state g c);
  tables = map_in (state g c).now.trees;
  may_leave = λ m. (db : Trees) × (state g c).may_leave db × (m ≡ map_in db);
  trusted = (state g c).is_open;
  is_clean = (state g c).is_clean;
  faults = refusals;
  never_fails = false;
  shown = λ t. slice_index shown t;
  written = written;
}
