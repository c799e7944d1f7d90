-- Changes of rows that are added to a list.
use Rattle.std.specs.Prelude.{◌≡◌, ◌≢◌, ◌≤◌, ◌+◌, ◌*◌, ℕ, List, ◌++◌, length, map, Result, Ok, Err}
use Rattle.std.specs.List.{AllByRecursion}
use Rattle.store_edit.specs.Rows.{gone_of, spelled}
use Rattle.store_kv.specs.declared.keeper.Change.{Change as Spelled}
use Rattle.store_rows.specs.declared.fail.StoreFail.{StoreFail}
use Rattle.store_rows.specs.declared.fail.StoreFail.TheVariants.{Damaged}
use Rattle.store_rows.specs.Keys.{FitsKey}
use Rattle.record_target.specs.Usable.{IsReady}
use Rattle.store_abstraction.specs.Changes.{Change}
use Rattle.store_abstraction.specs.Local.{IsIn}
use Rattle.store_abstraction.specs.declared.layout.Layout.{Layout}

-- changes at keys of the organisation were added, at most so many, which remove just so many data rows
pub record Adds (org most taken : ℕ) (old new : List Spelled) : Type 0 where
  pub changes : List Change
  pub are : new ≡ old ++ map spelled changes
  pub own : AllByRecursion (IsIn org) changes
  pub few : length changes ≤ most
  pub gone : gone_of (map spelled changes) ≡ taken

-- those of records that lose a lookup were added, so many: for each at least one and at most 245, which remove no data row
pub record Clears (org records : ℕ) (old new : List Spelled) : Type 0 where
  pub adds : Adds org (245 * records) 0 old new
  pub each : length old + records ≤ length new

-- these were added, and their keys have spellings; or why the work on the tables stopped
abbrev pub AddsThese : {X : Type 0} → List Change → (old new : List Spelled) → Result X StoreFail → Type 0
AddsThese changes old new (Ok x) = (new ≡ old ++ map spelled changes) × AllByRecursion (λ c. FitsKey c.0) changes
AddsThese changes old new (Err e) = e ≢ Damaged

-- layouts of one organisation, by which records can be read and changed
abbrev pub AreReady : (org : ℕ) → List Layout → Type 0
AreReady org layouts = AllByRecursion (IsReady org) layouts
