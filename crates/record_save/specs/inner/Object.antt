-- The rows that count the records of an object, as they were read.
use Rattle.std.specs.Prelude.{◌≡◌, ◌≢◌, ℕ, ◌+◌, ◌-◌, ◌<◌, ◌^◌, Result, Ok, Err}
use Rattle.store_rows.specs.declared.fail.StoreFail.{StoreFail}
use Rattle.store_rows.specs.declared.fail.StoreFail.TheVariants.{Damaged}
use Rattle.store_rows.specs.declared.object.ObjectRow.{ObjectRow}
use Rattle.store_rows.specs.declared.org.OrgRow.{OrgRow}
use Rattle.store_rows.specs.Forms.{FitsForm}
use Rattle.store_rows.specs.Rows.{object_form, org_form}
use Rattle.model.specs.Objects.{Numbered}
use Rattle.model.specs.Tenant.{Tenant}
use Rattle.store_abstraction.specs.Metadata.{org_of, row_of_object}
use Rattle.record_save.specs.declared.object.Counts.{Counts}

-- ---- what was read

-- they are those of this object in this tenant
pub record CountsOf (org : ℕ) (t : Tenant) (o : Numbered) (x : Counts) : Type 0 where
  pub row : x.row ≡ org_of org t
  pub object : x.object ≡ row_of_object org t o.number o.object

-- the same, or why the work on the tables stopped
abbrev pub ReadsCounts : (org : ℕ) → Tenant → Numbered → Result Counts StoreFail → Type 0
ReadsCounts org t o (Ok x) = CountsOf org t o x
ReadsCounts org t o (Err e) = e ≢ Damaged

-- they have spellings
pub record HasForms (x : Counts) : Type 0 where
  pub row : FitsForm org_form x.row
  pub object : FitsForm object_form x.object

-- whatever the tables have, they are rows of the organisation, and have spellings
pub record FitsCounts (org : ℕ) (x : Counts) : Type 0 where
  pub row : x.row.org ≡ org
  pub object : x.object.org ≡ org
  pub forms : HasForms x

-- ---- one record more

-- there may be one more
pub record HasRoom (x : Counts) : Type 0 where
  pub number : x.row.counter < 10 ^ 15 - 1
  pub records : x.row.records < 50000
  pub of_object : x.object.records < 20000

-- the rows that count one record more
abbrev pub row_with : OrgRow → OrgRow
row_with row = record row { counter = row.counter + 1; records = row.records + 1 }

abbrev pub object_with : ObjectRow → ObjectRow
object_with row = record row { records = row.records + 1 }

abbrev pub counted : Counts → Counts
counted x = record { row = row_with x.row; object = object_with x.object }
