-- What one statement does. No public contract reaches these words.
use Rattle.std.specs.Prelude.{◌≡◌, ◌≤◌, ◌⊎◌, [], ◌∷◌, None, Option, Some, List, ℕ, ℤ, pos, negsuc, IsTrue}
use Rattle.sqlite.specs.declared.types.Value.TheVariants.{Blob}
use Rattle.sqlite.specs.Order.{Row, column, bytes}
use Rattle.sqlite_trees.specs.View.{IsShaped, doubt}
use Rattle.sqlite_trees.specs.declared.store.Shape.TheVariants as shape
use Rattle.sqlite.specs.Effect.{IsDatabase}
use Rattle.sqlite.specs.State.{State}
use Rattle.store_kv.specs.declared.keeper.KeptRow.{KeptRow}
use Rattle.store_kv.specs.Tables.{Tables}
use Rattle.store_sqlite.specs.Kept.{kept_schema, no_schema, tables_in, IsReady}

-- the answer to the query for one row, of which there is at most one
abbrev pub blob_row : Option (List ℕ) → Option Row
blob_row None = None
blob_row (Some v) = Some (Blob v ∷ [])

-- a row of the answer to the query for an interval
abbrev pub kept_row : Row → KeptRow
kept_row r = record { key = bytes (column r 0); row = bytes (column r 1) }

-- what LIMIT is given for a limit: the limit, or -1, which is none
abbrev pub IsLimit : ℕ → ℤ → Type 0
IsLimit limit n = (n ≡ pos limit) ⊎ (n ≡ negsuc 0)

-- a call that reads, or that fails: a database that is ready stays as it was
abbrev pub Stays : State → State → Type 0
Stays old new = IsReady old → IsTrue new.is_open → IsReady new × (new.now ≡ old.now)

-- a connection that is open was open before
abbrev pub WasOpen : State → State → Type 0
WasOpen old new = IsTrue new.is_open → IsTrue old.is_open

-- a disk that isn't clean is never clean again
pub record Keeps (old new : State) : Type 0 where
  pub clean : doubt old.is_clean ≤ doubt new.is_clean

-- within a transaction: the database has the one table
pub record IsGood (s : State) : Type 0 where
  pub schema : s.now.schema ≡ kept_schema
  pub sound : IsDatabase s.now
  pub shaped : IsShaped shape.Table (s.now.trees 0)

-- within a transaction: the map is now m, and nothing is committed
pub record IsPending (old new : State) (m : Tables) : Type 0 where
  pub good : IsGood new
  pub made : tables_in new.now.trees ≡ m
  pub was_open : IsTrue old.is_open
  pub inside : IsTrue new.in_transaction
  pub committed : new.committed ≡ old.committed

-- nothing was committed
pub record Undoes (old new : State) : Type 0 where
  pub was_open : IsTrue new.is_open → IsTrue old.is_open
  pub committed : IsTrue new.is_open → new.committed ≡ old.committed

-- within a transaction: nothing is committed, and there is a table
pub record GoesOn (old new : State) : Type 0 where
  pub inside : IsTrue new.in_transaction
  pub was_open : IsTrue old.is_open
  pub committed : new.committed ≡ old.committed
  pub tabled : ¬ (old.now.schema ≡ no_schema)
