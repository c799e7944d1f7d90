-- What is written, and what is shown for it.
use Rattle.std.specs.Prelude.{◌≡◌, ℕ, ◌+◌, ◌*◌, ◌<◌, ◌≤◌, Bool, List, ◌++◌, length, filter, take, Some, Result, Ok, Err}
use Rattle.std.specs.List.{flat_map}
use Rattle.std.specs.declared.cmp.Ordering.{Ordering}
use Rattle.store_kv.specs.Draft.{DraftTells, Held, removals_of, state_of, tables_of}
use Rattle.store_kv.specs.State.{KeeperState, ShowsMost, data_table}
use Rattle.store_kv.specs.Tables.{Tables}
use Rattle.store_rows.specs.declared.fail.StoreFail.TheVariants.{Damaged, Keeper, Memory}
use Rattle.model.specs.declared.limit.Limit.TheVariants.{RecordsPerObject}
use Rattle.model.specs.declared.record.Record.{Record}
use Rattle.model.specs.Levels.{can_read, readable}
use Rattle.model.specs.Limits.{limit_number}
use Rattle.model.specs.Objects.{records_of}
use Rattle.model.specs.Ordered.{in_order}
use Rattle.model.specs.Paths.{Asked}
use Rattle.access_traits.specs.Rights.{Whose}
use Rattle.store_abstraction.specs.declared.layout.Layout.{Layout}
use Rattle.store_abstraction.specs.Calls.{Ending, done, fell, stopped}
use Rattle.store_abstraction.specs.Layouts.{IsLayout}
use Rattle.store_abstraction.specs.Local.{StandsIn}
use Rattle.store_abstraction.specs.Plan.{OrgPlan}
use Rattle.store_codec.specs.declared.fail.CodecFail.{CodecFail}
use Rattle.store_codec.specs.declared.fail.CodecFail.TheVariants as codec
use Rattle.query_exec.specs.declared.fail.ExecFail.{ExecFail}
use Rattle.query_exec.specs.declared.fail.ExecFail.TheVariants.{Store, TooLarge}
use Rattle.query_exec.specs.declared.window.Window.{Window}
use Rattle.query_exec.specs.Windows.{HasAll, in_window}

-- these bytes were appended, or it is out of memory
abbrev pub Puts : (bytes : List ℕ) → (old new : List ℕ) → Result (Unit {0}) CodecFail → Type 0
Puts bytes old new (Ok x) = new ≡ old ++ bytes
Puts bytes old new (Err codec.Damaged) = ⊥
Puts bytes old new (Err codec.Memory) = Unit {0}

-- who asks sees so, and has these relatives of records
abbrev pub seeing : Whose → (OrgPlan → Asked → Type 0) → OrgPlan → Asked → Type 0
seeing sees whose q a = sees a.tenant a.user × whose q a

-- so it is of whoever asks so, in a tenant for which the organisation's rows stand and whose layout it is
abbrev pub InTenants : Layout → (who : OrgPlan → Asked → Type 0) → Tables → (Asked → Type 0) → Type 0
InTenants l who m P = (q : OrgPlan) (a : Asked) → StandsIn l.org q m (Some a.tenant) → IsLayout q a.tenant l → who q a → P a

-- the rows of an object without ORDER BY: of the records that who asks may read those that are kept, in the order of their ids
abbrev pub rows_kept : Window → (Asked → Record → Bool) → (object : ℕ) → Asked → List Record
rows_kept w keep n a = in_window w (filter (keep a) (readable a.tenant a.user n))

-- the same with ORDER BY
abbrev pub rows_sorted : Window → (Asked → Record → Record → Ordering) → (Asked → Record → Bool) → (object : ℕ) → Asked → List Record
rows_sorted w order keep n a = in_window w (in_order (order a) (filter (keep a) (readable a.tenant a.user n)))

-- all of these rows were appended, and there was room for them
pub record AppendsRows (row : Record → List ℕ) (room : ℕ) (rows : List Record) (old new : List ℕ) (count : ℕ) : Type 0 where
  pub counted : count ≡ length rows
  pub appended : new ≡ old ++ flat_map row rows
  pub fits : length (flat_map row rows) ≤ room

-- the rows were written for whoever asks so, or there is no room for them; the tenant's rows are never damaged
abbrev pub WritesRows : Layout → (who : OrgPlan → Asked → Type 0) → (Asked → List Record) → (Asked → Record → List ℕ) → (room : ℕ) → (old new : List ℕ) → Tables
    → Result ℕ ExecFail → Type 0
WritesRows l who rows row room old new m (Ok count) = InTenants l who m (λ a. AppendsRows (row a) room (rows a) old new count)
WritesRows l who rows row room old new m (Err TooLarge) = InTenants l who m (λ a. room < length (flat_map (row a) (rows a)))
WritesRows l who rows row room old new m (Err (Store Damaged)) = InTenants l who m (λ a. ⊥)
WritesRows l who rows row room old new m (Err (Store Keeper)) = Unit {0}
WritesRows l who rows row room old new m (Err (Store Memory)) = Unit {0}

-- ---- data rows that are shown

-- so it is of a call that was done
abbrev pub IfDone : Ending → Type 0 → Type 0
IfDone done P = P
IfDone fell P = Unit {0}
IfDone stopped P = Unit {0}

-- in at most 80 pages: each record of an object once, with what tells whether it may be read and with its relatives, and in each page as
-- many rows more as the draft removes
abbrev pub shown_for : (each records removed : ℕ) → ℕ
shown_for each records removed = (1 + each) * records + 80 * removed

-- an object has so many records at most
abbrev pub most_shown : (each removed : ℕ) → ℕ
most_shown each removed = shown_for each (limit_number RecordsPerObject) removed

-- a page has so many rows at most
abbrev pub page_rows : ℕ
page_rows = 250

-- of an object's first records, in the order of their ids, as many as so many pages have, those that who asks may read and that are kept
abbrev pub kept_of_pages : (pages : ℕ) → (Asked → Record → Bool) → (object : ℕ) → Asked → List Record
kept_of_pages pages keep n a = filter (keep a) (filter (can_read a.tenant a.user) (take (page_rows * pages) (records_of a.tenant n)))

-- in so many pages: each of their records once, with what tells whether it may be read and with its relatives, and in each page as many
-- rows more as the draft removes
abbrev pub shown_in : (each pages removed : ℕ) → ℕ
shown_in each pages removed = (1 + each) * (page_rows * pages) + pages * removed

module _ {K : Type 0} (state : K → KeeperState) where
  -- if a call was done, it showed each record of the object once at most
  abbrev pub ShowsRecords : Layout → (who : OrgPlan → Asked → Type 0) → (each : ℕ) → Ending → (old new : Held K) → Type 0
  ShowsRecords l who each e old new =
      DraftTells state old new
      → IfDone e (InTenants l who (tables_of state old) (λ a.
      ShowsMost (shown_for each (length (records_of a.tenant l.object)) (removals_of state data_table old)) (state_of state old) (state_of state new)))

  -- if a call was done and so many pages have all rows that are taken, it showed no record of a further page
  abbrev pub ShowsPages : Layout → (who : OrgPlan → Asked → Type 0) → Window → (Asked → Record → Bool) → (each : ℕ) → Ending → (old new : Held K) → Type 0
  ShowsPages l who w keep each e old new =
      DraftTells state old new
      → IfDone e (InTenants l who (tables_of state old) (λ a. (pages : ℕ) → HasAll w.skip w.most (length (kept_of_pages pages keep l.object a))
      → ShowsMost (shown_in each pages (removals_of state data_table old)) (state_of state old) (state_of state new)))
