-- The rows of an object's records, page by page.
use Rattle.std.specs.Option.{option_map}
use Rattle.std.specs.Prelude.{◌≡◌, ℕ, ◌-◌, ◌*◌, ◌<◌, ◌≤◌, nat_lt, if◌then◌else◌, List, ◌++◌, filter, length, slice_get, Option, Some, Result, Ok, Err, Vec}
use Rattle.store_kv.specs.declared.keeper.KeptRow.{KeptRow}
use Rattle.store_kv.specs.Tables.{Tables}
use Rattle.store_rows.specs.declared.data.DataRow.{DataRow}
use Rattle.store_rows.specs.Forms.{read_row}
use Rattle.store_rows.specs.Rows.{data_form}
use Rattle.store_rows.specs.declared.fail.StoreFail.{StoreFail}
use Rattle.store_rows.specs.declared.fail.StoreFail.TheVariants.{Damaged, Keeper, Memory}
use Rattle.record_read.specs.Decoding.{each_from}
use Rattle.model.specs.declared.record.Record.{Record}
use Rattle.model.specs.Cases.{in_case}
use Rattle.model.specs.Jobs.{is_past}
use Rattle.model.specs.Objects.{records_of}
use Rattle.model.specs.Tenant.{Tenant}
use Rattle.store_abstraction.specs.declared.layout.Layout.{Layout}
use Rattle.store_abstraction.specs.Layouts.{IsLayout, records_after}
use Rattle.store_abstraction.specs.Local.{StandsIn}
use Rattle.store_abstraction.specs.Plan.{OrgPlan}
use Rattle.query_exec.specs.declared.pages.Pages.{Pages}
use Rattle.access_traits.specs.Rights.{kept_record}

-- so it is of each tenant for which the organisation's rows stand and whose layout it is
abbrev pub OfTenants : Layout → Tables → (Tenant → Type 0) → Type 0
OfTenants l m P = (q : OrgPlan) (t : Tenant) → StandsIn l.org q m (Some t) → IsLayout q t l → P t

-- the records after an id
abbrev pub beyond : Option (List ℕ) → List Record → List Record
beyond after rs = filter (λ r. is_past after r.id) rs

-- these rows were read
abbrev pub KeepsPage : {A : Type 0} → List KeptRow → Result (Vec KeptRow A) StoreFail → Type 0
KeepsPage kept (Ok rows) = rows.items ≡ kept
KeepsPage kept (Err Damaged) = ⊥
KeepsPage kept (Err Keeper) = Unit {0}
KeepsPage kept (Err Memory) = Unit {0}

-- so many rows at most were found: those of the records after an id
abbrev pub FindsPage : {A : Type 0} → Layout → (after : Option (List ℕ)) → Tables → Result (Vec KeptRow A) StoreFail → Type 0
FindsPage l after m (Ok rows) =
    (length rows.items ≤ 250)
    × OfTenants l m (λ t. each_from (kept_record l) rows.items ≡ Some (records_after l.object after 250 t))
FindsPage l after m (Err Damaged) = OfTenants l m (λ t. ⊥)
FindsPage l after m (Err Keeper) = Unit {0}
FindsPage l after m (Err Memory) = Unit {0}

-- the id of the record of a row, if it is a row
abbrev pub id_in : KeptRow → Option (List ℕ)
id_in row = option_map (λ (d : DataRow). d.id) (read_row data_form row.key row.row)

-- the id of the last of these rows, or what was before
abbrev pub last_of : Option (List ℕ) → List KeptRow → Option (List ℕ)
last_of before rows = in_case (slice_get rows (length rows - 1)) before id_in

-- for how many pages reading goes on after these rows: for none behind a page that isn't full
abbrev pub pages_left : ℕ → List KeptRow → ℕ
pages_left left rows = if nat_lt (length rows) 250 then 0 else left - 1

-- these rows are a page of these records, whose ids rise, and a full one unless reading ends with it; if so many pages were enough before,
-- they are enough after it
pub record ReadsOn (l : Layout) (rs : List Record) (old new : Pages) (rows : List KeptRow) : Type 0 where
  pub page : List Record
  pub read : each_from (kept_record l) rows ≡ Some page
  pub on : page ++ beyond new.after rs ≡ beyond old.after rs
  pub full : 0 < new.left → 250 ≤ length rows
  pub enough : length (beyond old.after rs) ≤ 250 * old.left → length (beyond new.after rs) ≤ 250 * new.left

-- a page was read
abbrev pub ReadsPage : {A : Type 0} → Layout → (old new : Pages) → Tables → Result (Vec KeptRow A) StoreFail → Type 0
ReadsPage l old new m (Ok rows) = (length rows.items ≤ 250) × OfTenants l m (λ t. ReadsOn l (records_of t l.object) old new rows.items)
ReadsPage l old new m (Err Damaged) = OfTenants l m (λ t. ⊥)
ReadsPage l old new m (Err Keeper) = Unit {0}
ReadsPage l old new m (Err Memory) = Unit {0}
