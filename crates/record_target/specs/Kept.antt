-- A record of an object, as it was read with its row.
use Rattle.std.specs.Prelude.{◌≡◌, ◌≢◌, List, ℕ, Option, Some, None, Result, Ok, Err, IsTrue}
use Rattle.record_read.specs.Decoding.{kinds_in, record_from}
use Rattle.store_rows.specs.Forms.{FitsForm}
use Rattle.store_rows.specs.Rows.{data_form}
use Rattle.store_rows.specs.declared.data.DataRow.{DataRow}
use Rattle.store_rows.specs.declared.fail.StoreFail.{StoreFail}
use Rattle.store_rows.specs.declared.fail.StoreFail.TheVariants.{Damaged}
use Rattle.model.specs.Cases.{in_case}
use Rattle.model.specs.Objects.{object_numbered}
use Rattle.model.specs.Rights.{record_of_object}
use Rattle.model.specs.SoundRecords.{all_valid}
use Rattle.model.specs.Tenant.{Object, Tenant}
use Rattle.record_target.specs.declared.kept.KeptRecord.{KeptRecord}
use Rattle.store_abstraction.specs.Entries.{data_of, slot_entry}
use Rattle.store_abstraction.specs.Plan.{OrgPlan}
use Rattle.store_abstraction.specs.declared.layout.Layout.{Layout}

-- the record that a row spells, if a row was read, and the row
abbrev pub kept_from : Layout → Result (Option DataRow) StoreFail → Result (Option KeptRecord) StoreFail
kept_from l (Ok None) = Ok None
kept_from l (Ok (Some row)) = in_case (record_from l row) (Err Damaged) (λ r. Ok (Some (record { row = row; item = r })))
kept_from l (Err fail) = Err fail

-- it is the object's record with this id in this tenant, and the row is the one that tables have of it
pub record IsKept (q : OrgPlan) (t : Tenant) (l : Layout) (id : List ℕ) (k : KeptRecord) : Type 0 where
  pub is : record_of_object t l.object id ≡ Some k.item
  pub object : Object
  pub there : object_numbered t l.object ≡ Some object
  pub row : k.row ≡ data_of l.org l.object k.item (slot_entry q t.job l.object object k.item)

-- the same, or that there is none, or why the work on the tables stopped
abbrev pub Keeps : OrgPlan → Tenant → Layout → (id : List ℕ) → Result (Option KeptRecord) StoreFail → Type 0
Keeps q t l id (Ok None) = record_of_object t l.object id ≡ None
Keeps q t l id (Ok (Some k)) = IsKept q t l id k
Keeps q t l id (Err e) = e ≢ Damaged

-- whatever the tables have, its row has a spelling, and its values are valid
pub record FitsKept (l : Layout) (k : KeptRecord) : Type 0 where
  pub row : FitsForm data_form k.row
  pub values : IsTrue (all_valid (kinds_in l.fields) k.item.values)
