-- The rows that differ where a step of a change of a field's type comes to a page of records: of each its own, and in the slot of the
-- change those of what is copied there, or of what is cleared.
-- Source: C. D. Weissman and S. Bobrowski, "The Design of the Force.com Multitenant Internet Application Development
-- Platform" (SIGMOD 2009): a new data type is filled in beside the old one, in another slot. The steps are this product's own.
use Rattle.std.specs.Prelude.{◌≡◌, ℕ, false, List, [], ◌∷◌, ◌++◌, Option, Some, None}
use Rattle.std.specs.Option.{option_map}
use Rattle.record_read.specs.Encoding.{row_from}
use Rattle.store_edit.specs.Rows.{change_to}
use Rattle.store_rows.specs.declared.data.DataRow.{DataRow}
use Rattle.store_rows.specs.Rows.{data_form}
use Rattle.model.specs.Cases.{in_case}
use Rattle.model.specs.Jobs.{next_hundred}
use Rattle.model.specs.Objects.{object_numbered}
use Rattle.model.specs.Retyping.{job_is_done}
use Rattle.model.specs.Sound.{IsSound}
use Rattle.model.specs.Tenant.{Job, Object, Tenant}
use Rattle.model.specs.declared.record.Record.{Record}
use Rattle.record_index.specs.Changed.{slot_changes}
use Rattle.record_index.specs.Removed.{beside_entry}
use Rattle.record_index.specs.Turned.{turned_row}
use Rattle.store_abstraction.specs.Changes.{Change}
use Rattle.store_abstraction.specs.Plan.{FitsPlan, OrgPlan}
use Rattle.store_abstraction.specs.declared.layout.JobPlace.{JobPlace}
use Rattle.store_abstraction.specs.declared.layout.Layout.{Layout}

-- ---- the rows

-- a change of a type, once it has come to this id
abbrev pub job_come_to : Option (List ℕ) → JobPlace → JobPlace
job_come_to cursor j = record j { cursor = cursor }

-- the layout of its object
abbrev pub come_to : Option (List ℕ) → Layout → Layout
come_to cursor l = record l { job = option_map (job_come_to cursor) l.job }

-- what is turned in the slot of the change, between these layouts
abbrev pub twin_changes : (before after : Layout) → (kept : DataRow) → Record → List Change
twin_changes l m kept r =
    in_case l.job [] (λ j. slot_changes l.org l.object r.id (beside_entry l kept r j.twin) (beside_entry m kept r j.twin) j.twin)

-- all rows of a record: its own is made anew
abbrev pub record_moves : (before after : Layout) → (kept : DataRow) → Record → List Change
record_moves l m kept r = change_to data_form (turned_row m (row_from m r None) r) ∷ twin_changes l m kept r

-- of records, whose rows these are, one after the other
unfoldable pub records_move : (before after : Layout) → (rows : List DataRow) → List Record → List Change
records_move l m [] rs = []
records_move l m (kept ∷ rows) [] = []
records_move l m (kept ∷ rows) (r ∷ rs) = record_moves l m kept r ++ records_move l m rows rs

-- where the change of this layout comes to this id
abbrev pub page_changes : Layout → (cursor : Option (List ℕ)) → (rows : List DataRow) → List Record → List Change
page_changes l cursor rows rs = records_move l (come_to cursor l) rows rs

-- ---- a page

-- these are the next records of a change that isn't done
pub record IsPage (q : OrgPlan) (t : Tenant) (j : Job) (o : Object) (rs : List Record) : Type 0 where
  pub sound : IsSound t
  pub fits : FitsPlan q t
  pub job : t.job ≡ Some j
  pub busy : job_is_done j.phase ≡ false
  pub next : next_hundred t j ≡ rs
  pub some : rs ≡ [] → ⊥
  pub there : object_numbered t j.object ≡ Some o
