-- What a step is made by: its change, the layout of the change's object, and the rows of the records that come next.
use Rattle.std.specs.Prelude.{◌≡◌, ◌≢◌, ℕ, false, if◌then◌else◌, List, map, Option, None, Some, Result, Ok, Err}
use Rattle.std.specs.Option.{option_and_then}
use Rattle.retype_step.specs.declared.reading.Page.{Page}
use Rattle.store_rows.specs.declared.data.DataRow.{DataRow}
use Rattle.store_rows.specs.declared.fail.StoreFail.{StoreFail}
use Rattle.store_rows.specs.declared.fail.StoreFail.TheVariants.{Damaged}
use Rattle.store_rows.specs.declared.job.JobRow.{JobRow}
use Rattle.model.specs.Jobs.{next_hundred}
use Rattle.model.specs.Objects.{object_numbered}
use Rattle.model.specs.Retyping.{job_is_done}
use Rattle.model.specs.Tenant.{Job, Object, Tenant}
use Rattle.store_abstraction.specs.declared.layout.Layout.{Layout}
use Rattle.store_abstraction.specs.Entries.{data_of, slot_entry}
use Rattle.store_abstraction.specs.Layouts.{layout_of, own_change_row}
use Rattle.store_abstraction.specs.Metadata.{job_of}
use Rattle.store_abstraction.specs.Plan.{OrgPlan}

-- the row of a change, unless the change is done
abbrev pub if_busy : JobRow → Option JobRow
if_busy row = if job_is_done row.phase then None else Some row

abbrev pub unless_done : Option JobRow → Option JobRow
unless_done row = option_and_then if_busy row

-- that of the change that is under way in an organisation, if one is
abbrev pub busy_row : (org : ℕ) → OrgPlan → Option Tenant → Option JobRow
busy_row org q t = unless_done (own_change_row org q t)

-- ---- a page

-- the rows of the records that the next step of a change of this object is over
abbrev pub next_rows : (org : ℕ) → OrgPlan → Tenant → Job → Object → List DataRow
next_rows org q t j o = map (λ r. data_of org j.object r (slot_entry q t.job j.object o r)) (next_hundred t j)

-- the row of the tenant's change, which is under way, the layout of its object, and the rows of the next records
pub record IsRead (org : ℕ) (q : OrgPlan) (t : Tenant) (j : Job) (row : JobRow) (l : Layout) (rows : List DataRow) : Type 0 where
  pub job : t.job ≡ Some j
  pub busy : job_is_done j.phase ≡ false
  pub its : row ≡ job_of org q j
  pub object : Object
  pub there : object_numbered t j.object ≡ Some object
  pub layout : l ≡ layout_of org q t (record { number = j.object; object = object })
  pub read : rows ≡ next_rows org q t j object

-- the same, or why the work on the tables stopped
abbrev pub FindsPage : (org : ℕ) → OrgPlan → Tenant → Job → Result Page StoreFail → Type 0
FindsPage org q t j (Ok page) = IsRead org q t j page.row page.layout page.rows
FindsPage org q t j (Err e) = e ≢ Damaged
