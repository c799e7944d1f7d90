-- A deletion that no rule refuses: what goes and what loses a lookup.
use Rattle.std.specs.Prelude.{◌≡◌, ◌≢◌, ◌≤◌, ◌+◌, ℕ, List, Some, Result, Ok, Err, length}
use Rattle.record_cascade.specs.Deletion.{DeletesWith}
use Rattle.record_delete.specs.declared.deleting.Doomed.{Doomed}
use Rattle.record_delete.specs.inner.Adding.{AreReady}
use Rattle.store_edit.specs.Edits.{FailsBy}
use Rattle.store_rows.specs.declared.fail.StoreFail.{StoreFail}
use Rattle.store_rows.specs.declared.fail.StoreFail.TheVariants.{Damaged}
use Rattle.model.specs.declared.record.Record.{Record}
use Rattle.model.specs.Deletes.{delete, delete_record}
use Rattle.model.specs.Limits.{deletion_limit}
use Rattle.model.specs.Objects.{record_at}
use Rattle.model.specs.Paths.{Asked}
use Rattle.model.specs.Tenant.{Tenant}
use Rattle.store_abstraction.specs.declared.fail.EditFail.{EditFail}
use Rattle.store_abstraction.specs.declared.layout.Layout.{Layout}
use Rattle.store_abstraction.specs.Layouts.{own_layouts}
use Rattle.store_abstraction.specs.Plan.{OrgPlan}

-- these are the layouts of all objects, or why the work on the tables stopped
abbrev pub AreAll : (org : ℕ) → OrgPlan → Tenant → Result (List Layout) StoreFail → Type 0
AreAll org q t (Ok layouts) = own_layouts org q (Some t) ≡ layouts
AreAll org q t (Err e) = e ≢ Damaged

-- this is the id of the record that the key names
pub record IsTarget (a : Asked) (name key id : List ℕ) : Type 0 where
  pub item : Record
  pub is : item.id ≡ id
  pub there : record_at a.tenant item.id ≡ Some item
  pub verdict : delete a name key ≡ delete_record a item

-- the same, or why nothing is deleted
abbrev pub FindsTarget : Asked → (name key : List ℕ) → Result (List ℕ) EditFail → Type 0
FindsTarget a name key (Ok id) = IsTarget a name key id
FindsTarget a name key (Err e) = FailsBy (delete a name key) e

-- the record that the key names, and what its deletion comes to
pub record IsDoomed (org : ℕ) (q : OrgPlan) (a : Asked) (name key : List ℕ) (x : Doomed) : Type 0 where
  pub item : Record
  pub there : record_at a.tenant item.id ≡ Some item
  pub verdict : delete a name key ≡ delete_record a item
  pub layouts : own_layouts org q (Some a.tenant) ≡ x.layouts
  pub deletion : DeletesWith a.tenant item (Ok x.deletion)

-- the same, or why nothing goes
abbrev pub Dooms : (org : ℕ) → OrgPlan → Asked → (name key : List ℕ) → Result Doomed EditFail → Type 0
Dooms org q a name key (Ok x) = IsDoomed org q a name key x
Dooms org q a name key (Err e) = FailsBy (delete a name key) e

-- whatever the tables have, the layouts can be used, and only so many records go or are cleared
pub record FitsDoomed (org : ℕ) (x : Doomed) : Type 0 where
  pub ready : AreReady org x.layouts
  pub few_objects : length x.layouts ≤ 100
  pub few : length x.deletion.gone + length x.deletion.cleared ≤ deletion_limit
