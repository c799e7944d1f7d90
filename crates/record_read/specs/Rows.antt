-- The rows of an object's records, as they are read.
-- Source: as in Decoding.
use Rattle.std.specs.Prelude.{◌≡◌, List, [], map, Result, Ok, Err, Some, Vec}
use Rattle.store_kv.specs.Tables.{Tables}
use Rattle.store_rows.specs.declared.data.DataRow.{DataRow}
use Rattle.store_rows.specs.declared.fail.StoreFail.{StoreFail}
use Rattle.store_rows.specs.declared.fail.StoreFail.TheVariants.{Keeper, Memory, Damaged}
use Rattle.model.specs.declared.record.Record.{Record}
use Rattle.model.specs.Cases.{in_case}
use Rattle.model.specs.Objects.{object_numbered}
use Rattle.model.specs.Tenant.{Tenant}
use Rattle.store_abstraction.specs.declared.layout.Layout.{Layout}
use Rattle.store_abstraction.specs.Entries.{data_of, slot_entry}
use Rattle.store_abstraction.specs.Layouts.{IsLayout}
use Rattle.store_abstraction.specs.Local.{StandsIn}
use Rattle.store_abstraction.specs.Plan.{OrgPlan}

-- the rows that tables have of these records of a layout's object
abbrev pub rows_of_records : OrgPlan → Tenant → Layout → List Record → List DataRow
rows_of_records q t l rs =
    in_case (object_numbered t l.object) [] (λ o. map (λ r. data_of l.org l.object r (slot_entry q t.job l.object o r)) rs)

-- what is read are the rows of these records of each tenant for which the organisation's rows stand and whose layout it is, and such
-- are never damaged
abbrev pub FindsRows : {A : Type 0} → Layout → (Tenant → List Record) → Tables → Result (Vec DataRow A) StoreFail → Type 0
FindsRows l listed m (Ok rows) =
    (q : OrgPlan) (t : Tenant) → StandsIn l.org q m (Some t) → IsLayout q t l → rows.items ≡ rows_of_records q t l (listed t)
FindsRows l listed m (Err Damaged) = (q : OrgPlan) (t : Tenant) → StandsIn l.org q m (Some t) → IsLayout q t l → ⊥
FindsRows l listed m (Err Keeper) = Unit {0}
FindsRows l listed m (Err Memory) = Unit {0}
