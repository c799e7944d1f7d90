-- Which rows a step writes, by what it read. A change whose rows no tables have that stand for a tenant isn't made a step of.
use Rattle.std.specs.Prelude.{◌≡◌, ◌≢◌, ◌≤◌, ℕ, ◌+◌, suc, Bool, not, ◌&&◌, ◌||◌, if◌then◌else◌, List, ◌++◌, length, is_none, Option, None, Some, IfSome, IsTrue, Result, Ok, Err, Vec, slice_get}
use Rattle.std.specs.List.{AllByRecursion, find}
use Rattle.retype_step.specs.inner.Rows.{done_row, failed_row, is_plain, moved_row, row_alone, switch_decided}
use Rattle.retype_step.specs.Background.{IsUnderWay}
use Rattle.record_read.specs.Decoding.{each_from, has_types, record_from}
use Rattle.store_edit.specs.Edits.{Takes}
use Rattle.store_edit.specs.Rows.{AreFew, AreOf, AreSpelled}
use Rattle.formula.specs.Meaning.{value_at}
use Rattle.store_kv.specs.Draft.{DraftReads, Held, removals_of}
use Rattle.store_kv.specs.State.{KeeperState, data_table}
use Rattle.store_kv.specs.declared.keeper.Change.{Change as Spelled}
use Rattle.store_rows.specs.declared.data.DataRow.{DataRow}
use Rattle.store_rows.specs.declared.fail.StoreFail.{StoreFail}
use Rattle.store_rows.specs.declared.fail.StoreFail.TheVariants.{Damaged}
use Rattle.store_rows.specs.declared.job.JobRow.{JobRow}
use Rattle.store_rows.specs.Keys.{FitsKey}
use Rattle.model.specs.Cases.{in_case}
use Rattle.model.specs.Jobs.{job_step, last_id}
use Rattle.model.specs.RuleFormulas.{is_copy}
use Rattle.model.specs.Tenant.{Tenant}
use Rattle.model.specs.Verdict.{accept, done}
use Rattle.model.specs.declared.record.Record.{Record}
use Rattle.store_codec.specs.Plain.{FitsText}
use Rattle.record_index.specs.Turned.{converts}
use Rattle.retype_step.specs.backfill.Progress.{page_changes}
use Rattle.store_abstraction.specs.Calls.{Calls, ended}
use Rattle.store_abstraction.specs.Changes.{Change}
use Rattle.store_abstraction.specs.Plan.{OrgPlan}
use Rattle.store_abstraction.specs.declared.layout.FieldPlace.{FieldPlace}
use Rattle.store_abstraction.specs.declared.layout.Layout.{Layout}
use Rattle.retype_cutover.specs.Switch.{any_plan}
use Rattle.base_value.specs.Conversion.{convert, convertible}

-- ---- what is asked of what was read

-- the types of the change and of its field are such, the layout's records can be read and changed, and what is copied converts
abbrev pub is_ready : JobRow → Layout → FieldPlace → Bool
is_ready row l f =
    (is_plain row.kind && is_plain f.kind) && ((has_types l && converts l) && (not (is_copy row.phase) || convertible f.kind row.kind))

-- a record's value doesn't convert
abbrev pub is_bad_by : JobRow → Record → Bool
is_bad_by row r = is_none (convert row.kind (value_at r.values (suc row.field)))

-- ---- what is decided

-- the rows of a page's records, and that of the change, which comes to the last of them
abbrev pub page_decided : (org : ℕ) → Layout → (cursor : Option (List ℕ)) → List DataRow → List Record → JobRow → List Change
page_decided org l cursor rows rs row = page_changes l cursor rows rs ++ row_alone (moved_row org cursor row)

-- of a change that copies, over some records: it fails at the first that doesn't convert
abbrev pub copied : (org : ℕ) → Layout → (cursor : Option (List ℕ)) → List DataRow → List Record → JobRow → List Change
copied org l cursor rows rs row =
    in_case (find (is_bad_by row) rs) (page_decided org l cursor rows rs row) (λ r. row_alone (failed_row org r.id row))

-- of a change that copies, and of one that clears
abbrev pub copy_decided : (org : ℕ) → Layout → FieldPlace → List DataRow → List Record → JobRow → List Change
copy_decided org l f rows rs row =
    in_case (last_id rs) (switch_decided org f row) (λ last. copied org l (Some last) rows rs row)

abbrev pub clear_decided : (org : ℕ) → Layout → FieldPlace → List DataRow → List Record → JobRow → List Change
clear_decided org l f rows rs row =
    in_case (last_id rs) (row_alone (done_row org f row)) (λ last. page_decided org l (Some last) rows rs row)

abbrev pub decided : (org : ℕ) → Layout → FieldPlace → List DataRow → List Record → JobRow → List Change
decided org l f rows rs row = if is_copy row.phase then copy_decided org l f rows rs row else clear_decided org l f rows rs row

-- ---- by a page

-- what a page has beside its row: the field, the records, and what is decided by them, at keys that have spellings
pub record DecidesBy (org : ℕ) (row : JobRow) (l : Layout) (rows : List DataRow) (changes : List Spelled) : Type 0 where
  pub field : FieldPlace
  pub there : slice_get l.fields row.field ≡ Some field
  pub items : List Record
  pub read : each_from (record_from l) rows ≡ Some items
  pub are : AreSpelled (decided org l field rows items row) changes
  pub keys : AllByRecursion (λ (c : Change). FitsKey c.0) (decided org l field rows items row)
  pub few : length (decided org l field rows items row) ≤ 201

-- what a page of a tenant has
pub record IsWhole (org : ℕ) (row : JobRow) (l : Layout) (rows : List DataRow) : Type 0 where
  pub field : FieldPlace
  pub there : slice_get l.fields row.field ≡ Some field
  pub items : List Record
  pub read : each_from (record_from l) rows ≡ Some items
  pub ready : IsTrue (is_ready row l field)
  pub name : FitsText field.name
  pub child : IfSome field.child FitsText
  pub few : length (decided org l field rows items row) ≤ 201

-- ---- by a tenant

-- the changes that take its rows to those after its step, or why the work on the tables stopped
abbrev pub TakesStep : {A : Type 0} → (org : ℕ) → OrgPlan → Tenant → Result (Vec Spelled A) StoreFail → Type 0
TakesStep org q t (Ok bytes) =
    (changes : List Change) × AreSpelled changes bytes.items × Takes org q t (accept done (job_step t)) done any_plan changes
TakesStep org q t (Err e) = e ≢ Damaged

-- the same where there may be nothing to do
abbrev pub DecidesStep : {A : Type 0} → (org : ℕ) → OrgPlan → Tenant → Result (Option (Vec Spelled A)) StoreFail → Type 0
DecidesStep org q t (Ok None) = job_step t ≡ t
DecidesStep org q t (Ok (Some bytes)) =
    IsUnderWay t
    × ((changes : List Change) × AreSpelled changes bytes.items × Takes org q t (accept done (job_step t)) done any_plan changes)
DecidesStep org q t (Err e) = e ≢ Damaged

-- ---- whatever the tables have

-- some changes, no more than those of a step, at keys of the organisation
pub record AreStep (org : ℕ) (changes : List Spelled) : Type 0 where
  pub own : AreOf org changes
  pub few : AreFew 201 0 changes

module _ {K : Type 0} (state : K → KeeperState) where
  -- what deciding on a step leaves of a draft: it only reads, and where there is no step to make it is shown no data row
  pub record ReadsStep {A : Type 0} (result : Result (Option (Vec Spelled A)) StoreFail) (old new : Held K) : Type 0 where
    pub calls : Calls state (100 + removals_of state data_table old) (ended result) old new
    pub same : result ≡ Ok None → DraftReads state 0 old new
