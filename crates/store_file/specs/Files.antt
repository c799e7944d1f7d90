-- What a keeper shows that was given a file and its log, and what it leaves in them.
use Rattle.std.specs.Prelude.{◌≡◌, ◌⊎◌, length, IsTrue}
use Rattle.sqlite.specs.Tree.{Trees}
use Rattle.sqlite.specs.Files.{HoldsDatabase, image_of}
use Rattle.sqlite.specs.Closing.{HoldsAlone, IsCopied}
use Rattle.sqlite.specs.Held.{Held}
use Rattle.sqlite_catalog.specs.Listing.{IsSound}
use Rattle.sqlite_disk.specs.declared.Disk.{Ghosts}
use Rattle.sqlite_disk.specs.declared.Files.{Files}
use Rattle.sqlite_store.specs.declared.store.FileStore.{FileStore}
use Rattle.sqlite_trees.specs.View.{IsShaped}
use Rattle.sqlite_trees.specs.declared.store.Shape.TheVariants as shape
use Rattle.sqlite_wal.specs.Files.{outcomes}
use Rattle.sqlite_wal.specs.Reads.{AreClean}
use Rattle.sqlite_wal.specs.Recovery.{Image}
use Rattle.store_kv.specs.State.{KeeperState, Shows}
use Rattle.store_kv.specs.Tables.{no_rows}
use Rattle.store_sqlite.specs.Kept.{kept_schema, no_schema, map_in}

-- a database of this program: it has the table `kept` alone, whose rows have each number once, or no table
abbrev pub IsOwn : Trees → Type 0
IsOwn db = (IsSound kept_schema db × IsShaped shape.Table (db 0)) ⊎ IsSound no_schema db

-- an opened keeper, by what the file and its log held: all that it says is said while the disk returns what was written
pub record Finds (image : Image) (s : KeeperState) : Type 0 where
  pub trusted : IsTrue s.is_clean → IsTrue s.trusted
  -- it tells the map of the database that they held, if that is one of this program
  pub own : IsTrue s.is_clean → (db : Trees) → ∥ HoldsDatabase image db ∥₁ → IsOwn db → Shows s (map_in db)
  -- of a new file it tells that there is no row
  pub new : IsTrue s.is_clean → length image.db ≡ 0 → Shows s no_rows
  pub faults : s.faults ≡ 0

-- these contents are a database of this program with the keeper's tables, without the log too
pub record Keeps (s : KeeperState) (db : Trees) (image : Image) : Type 0 where
  pub own : IsOwn db
  pub tables : s.tables ≡ map_in db
  pub holds : HoldsAlone image db

-- the last commit of a connection is in these files, if they are clean
abbrev pub Copies : {D : Type 0} {g : Ghosts D} → Held (FileStore D g) → Type 0
Copies {D} {g} c = (files : Files D) × (AreClean g files.log files.db → IsCopied c files)

-- a keeper that was closed: if it told its tables and the files are clean, those are what they hold, as they read now and after
-- a crash
pub record LeavesIn {D : Type 0} (g : Ghosts D) (s : KeeperState) : Type 0 where
  pub files : Files D
  pub db : Trees
  pub now : s.tells → AreClean g files.log files.db → Keeps s db (image_of g files)
  pub crash : s.tells → AreClean g files.log files.db → (image : Image) → outcomes g files.log files.db image → Keeps s db image
