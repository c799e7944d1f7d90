-- What is decided takes a tenant's rows to those after its step, in each phase of its change.
use Rattle.std.proofs.Common.{◌≡◌, ◌∙◌, ◌<◌, ◌≤◌, ◌^◌, ◌*◌, ℕ, suc, false, List, [], ◌∷◌, ◌++◌, length, map, filter, Option, Some, None, refl, sym, ap, subst, arith, length-append as length_both}
use Rattle.std.specs.Prelude.{if◌then◌else◌, is_none, slice_get}
use Rattle.std.specs.Option.{option_and_then}
use Rattle.std.specs.List.{find}
use Rattle.base_lemmas.proofs.Lists.{length-take_most as short_take}
use Rattle.retype_step.proofs.Facts.{FieldOf, last_some}
use Rattle.retype_step.proofs.Own.{HaveKeys, keys_first}
use Rattle.retype_step.proofs.ChangeRows.{done_is, failed_is, moved_is, switch_is, type_copy}
use Rattle.retype_step.specs.inner.Deciding.{clear_decided, copied, copy_decided, decided, is_bad_by, page_decided}
use Rattle.retype_step.specs.inner.Rows.{done_row, failed_row, row_alone, switch_decided}
use Rattle.store_edit.specs.Edits.{Takes}
use Rattle.store_edit.specs.Rows.{change_to}
use Rattle.formula.specs.Meaning.{value_at}
use Rattle.store_rows.specs.declared.data.DataRow.{DataRow}
use Rattle.store_rows.specs.declared.job.JobRow.{JobRow}
use Rattle.store_rows.specs.Rows.{job_form}
use Rattle.model.specs.Cases.{in_case}
use Rattle.model.specs.Jobs.{clear_step, copy_step, failed_at, is_bad, is_past, job_step, last_id, moved, next_hundred, step_in, switched}
use Rattle.model.specs.Limits.{step_records}
use Rattle.model.specs.Objects.{object_numbered, records_of}
use Rattle.model.specs.Retyping.{job_is_done, to_clear, with_job}
use Rattle.model.specs.RuleFormulas.{is_copy}
use Rattle.model.specs.Sound.{IsSound}
use Rattle.model.specs.SoundJob.{job_field}
use Rattle.model.specs.Tenant.{Field, Job, Object, Tenant}
use Rattle.model.specs.Verdict.{accept, done}
use Rattle.model.specs.declared.record.Record.{Record}
use Rattle.retype_step.specs.backfill.Progress.{IsPage, page_changes}
use Rattle.store_abstraction.specs.Changes.{Change}
use Rattle.store_abstraction.specs.declared.layout.FieldPlace.{FieldPlace}
use Rattle.store_abstraction.specs.declared.layout.Layout.{Layout}
use Rattle.store_abstraction.specs.Entries.{data_of, slot_entry}
use Rattle.store_abstraction.specs.Layouts.{layout_of, place_of}
use Rattle.store_abstraction.specs.Metadata.{job_of}
use Rattle.store_abstraction.specs.Plan.{FitsPlan, OrgPlan}
use Rattle.retype_cutover.specs.Switch.{any_plan, stopped_plan, switch_changes, switched_plan}
use Rattle.base_value.specs.Conversion.{convert}
use Rattle.base_value.specs.declared.job.Outcome.{Outcome}
use Rattle.base_value.specs.declared.job.Outcome.TheVariants as outcome
use Rattle.base_value.specs.declared.job.Phase.{Phase}
use Rattle.base_value.specs.declared.job.Phase.TheVariants as phase
use Rattle.base_value.specs.declared.value.FieldType.{FieldType}

-- ---- what `retype_cutover` and `backfill` say

-- the rows of some records of the change's object
abbrev pub rows_at : (org : ℕ) → OrgPlan → Tenant → Job → Object → List Record → List DataRow
rows_at org q t j o rs = map (λ r. data_of org j.object r (slot_entry q t.job j.object o r)) rs

abbrev pub layout_at : (org : ℕ) → OrgPlan → Tenant → Job → Object → Layout
layout_at org q t j o = layout_of org q t (record { number = j.object; object = o })

pub record StepLaws : Type 0 where
  pub stops : (org : ℕ) (q : OrgPlan) (t : Tenant) (j : Job) (x : Outcome) (failed : Option (List ℕ))
      → org < 2 ^ 32 → IsSound t → FitsPlan q t → t.job ≡ Some j → j.phase ≡ phase.Copy → (x ≡ outcome.Switched → ⊥)
      → IsSound (with_job (record (to_clear x j) { failed = failed }) t)
      → Takes org q t (accept done (with_job (record (to_clear x j) { failed = failed }) t)) done any_plan
      (change_to job_form (job_of org (stopped_plan q t j) (record (to_clear x j) { failed = failed })) ∷ [])
  pub switches : (org : ℕ) (q : OrgPlan) (t : Tenant) (j : Job) (o : Object) (f : Field)
      → org < 2 ^ 32 → IsSound t → FitsPlan q t → t.job ≡ Some j → j.phase ≡ phase.Copy → next_hundred t j ≡ []
      → object_numbered t j.object ≡ Some o → slice_get o.fields j.field ≡ Some f → IsSound (switched j t)
      → Takes org q t (accept done (switched j t)) done any_plan (switch_changes org (switched_plan q t j) j f)
  pub finishes : (org : ℕ) (q : OrgPlan) (t : Tenant) (j : Job)
      → org < 2 ^ 32 → IsSound t → FitsPlan q t → t.job ≡ Some j → j.phase ≡ phase.Clear → next_hundred t j ≡ []
      → IsSound (with_job (record j { phase = phase.Done }) t)
      → Takes org q t (accept done (with_job (record j { phase = phase.Done }) t)) done any_plan
      (change_to job_form (job_of org q (record j { phase = phase.Done })) ∷ [])
  pub moves : (org : ℕ) (q : OrgPlan) (t : Tenant) (j : Job) (o : Object) (rs : List Record)
      → org < 2 ^ 32 → IsPage q t j o rs → IsSound (with_job (moved j rs) t)
      → HaveKeys (page_changes (layout_at org q t j o) (last_id rs) (rows_at org q t j o rs) rs)
      → Takes org q t (accept done (with_job (moved j rs) t)) done any_plan
      (page_changes (layout_at org q t j o) (last_id rs) (rows_at org q t j o rs) rs ++ change_to job_form (job_of org q (moved j rs)) ∷ [])
  pub few : (org : ℕ) (q : OrgPlan) (t : Tenant) (j : Job) (o : Object) (rs : List Record)
      → IsPage q t j o rs → IsSound (with_job (moved j rs) t)
      → length (page_changes (layout_at org q t j o) (last_id rs) (rows_at org q t j o rs) rs) ≤ 2 * length rs

-- these changes are few, and at keys that have spellings they take the rows to those of the tenant u
pub record Does (org : ℕ) (q : OrgPlan) (t u : Tenant) (changes : List Change) : Type 0 where
  pub takes : HaveKeys changes → Takes org q t (accept done u) done any_plan changes
  pub few : length changes ≤ 201

-- ---- the step, by its phase

not_switched : outcome.Failed ≡ outcome.Switched → ⊥
not_switched e = cc

step_is : (t : Tenant) (j : Job) → t.job ≡ Some j → job_step t ≡ step_in j.phase j t
unfolding job_step
step_is t j is = ap (λ (x : Option Job). in_case x t (λ (j : Job). step_in j.phase j t)) is

-- so many records a step is over
page_short : (t : Tenant) (j : Job) (rs : List Record) → next_hundred t j ≡ rs → length rs ≤ 100
page_short t j rs e = subst (λ (xs : List Record). length xs ≤ 100) e (short_take step_records (filter (λ (r : Record). is_past j.cursor r.id) (records_of t j.object)))

module _ (laws : StepLaws) (org : ℕ) (q : OrgPlan) (t : Tenant) (j : Job) (o : Object) (lo : org < 2 ^ 32) (sound : IsSound t) (fits : FitsPlan q t) (is : t.job ≡ Some j) (there : object_numbered t j.object ≡ Some o) (f : FieldOf t j o) where
  abbrev l : Layout
  l = layout_at org q t j o

  abbrev row : JobRow
  row = job_of org q j

  abbrev place : FieldPlace
  place = place_of q j.object (j.field, f.field)

  its_field : job_field t.objects j ≡ Some f.field
  its_field = ap (λ (x : Option Object). option_and_then (λ (o : Object). slice_get o.fields j.field) x) there ∙ f.at

  -- ---- a page

  abbrev turned : List Record → List Change
  turned rs = page_changes l (last_id rs) (rows_at org q t j o rs) rs

  page : (rs : List Record) → job_is_done j.phase ≡ false → next_hundred t j ≡ rs → (rs ≡ [] → ⊥) → IsPage q t j o rs
  page rs busy next some = record { sound = sound; fits = fits; job = is; busy = busy; next = next; some = some; there = there }

  moves : (rs : List Record) (c : List ℕ) → job_is_done j.phase ≡ false → next_hundred t j ≡ rs → (rs ≡ [] → ⊥) → last_id rs ≡ Some c → IsSound (with_job (moved j rs) t)
      → Does org q t (with_job (moved j rs) t) (page_decided org l (Some c) (rows_at org q t j o rs) rs row)
  moves rs c busy next some last after =
      subst (λ (cursor : Option (List ℕ)). Does org q t (with_job (moved j rs) t) (page_decided org l cursor (rows_at org q t j o rs) rs row)) last
      (subst (λ (r : JobRow). Does org q t (with_job (moved j rs) t) (page_changes l (last_id rs) (rows_at org q t j o rs) rs ++ row_alone r)) (sym (moved_is org q j (last_id rs)))
      (record {
        takes = λ keys. laws.moves org q t j o rs lo (page rs busy next some) after (keys_first (turned rs) (change_to job_form (job_of org q (moved j rs)) ∷ []) keys);
        few =
            let few = laws.few org q t j o rs (page rs busy next some) after in
            let many = length_both (turned rs) (change_to job_form (job_of org q (moved j rs)) ∷ []) in
            let short = page_short t j rs next in
            omega (arith, few, many, short);
      }))

  -- ---- a change that copies

  bad_so : j.phase ≡ phase.Copy → (rs : List Record) → find (is_bad_by row) rs ≡ find (is_bad t j) rs
  bad_so copy rs = ap (λ (kind : FieldType). find (λ (r : Record). is_none (convert kind (value_at r.values (suc j.field)))) rs) (type_copy q j copy)

  copies_some : (rs : List Record) (c : List ℕ) → j.phase ≡ phase.Copy → next_hundred t j ≡ rs → (rs ≡ [] → ⊥) → last_id rs ≡ Some c → (x : Option Record) → IsSound (with_job (in_case x (moved j rs) (failed_at j)) t)
      → Does org q t (with_job (in_case x (moved j rs) (failed_at j)) t) (in_case x (page_decided org l (Some c) (rows_at org q t j o rs) rs row) (λ (r : Record). row_alone (failed_row org r.id row)))
  copies_some rs c copy next some last None after = moves rs c (ap job_is_done copy) next some last after
  copies_some rs c copy next some last (Some r) after =
      subst (λ (z : JobRow). Does org q t (with_job (failed_at j r) t) (row_alone z)) (sym (failed_is org q t j r.id copy))
      (record { takes = λ keys. laws.stops org q t j outcome.Failed (Some r.id) lo sound fits is copy not_switched after; few = omega arith })

  copies : (rs : List Record) → j.phase ≡ phase.Copy → next_hundred t j ≡ rs → IsSound (copy_step j rs t) → Does org q t (copy_step j rs t) (copy_decided org l place (rows_at org q t j o rs) rs row)
  copies [] copy next after =
      subst (Does org q t (switched j t)) (sym (switch_is org q t j f.field copy its_field))
      (record { takes = λ keys. laws.switches org q t j o f.field lo sound fits is copy next there f.at after; few = omega arith })
  copies (r ∷ rs) copy next after =
      let (c, last) = last_some r rs in
      subst (λ (x : Option (List ℕ)). Does org q t (copy_step j (r ∷ rs) t) (in_case x (switch_decided org place row) (λ (c : List ℕ). copied org l (Some c) (rows_at org q t j o (r ∷ rs)) (r ∷ rs) row))) (sym last)
      (subst (λ (x : Option Record). Does org q t (copy_step j (r ∷ rs) t) (in_case x (page_decided org l (Some c) (rows_at org q t j o (r ∷ rs)) (r ∷ rs) row) (λ (r : Record). row_alone (failed_row org r.id row)))) (sym (bad_so copy (r ∷ rs)))
      (copies_some (r ∷ rs) c copy next differ last (find (is_bad t j) (r ∷ rs)) after))
    where
      differ : {r : Record} {rs : List Record} → r ∷ rs ≡ [] → ⊥
      differ e = cc

  -- ---- a change that clears

  clears : (rs : List Record) → j.phase ≡ phase.Clear → next_hundred t j ≡ rs → IsSound (clear_step j rs t) → Does org q t (clear_step j rs t) (clear_decided org l place (rows_at org q t j o rs) rs row)
  clears [] clear next after =
      subst (λ (z : JobRow). Does org q t (with_job (record j { phase = phase.Done }) t) (row_alone z)) (sym (done_is org q j f.field clear f.change.switched))
      (record { takes = λ keys. laws.finishes org q t j lo sound fits is clear next after; few = omega arith })
  clears (r ∷ rs) clear next after =
      let (c, last) = last_some r rs in
      subst (λ (x : Option (List ℕ)). Does org q t (clear_step j (r ∷ rs) t) (in_case x (row_alone (done_row org place row)) (λ (c : List ℕ). page_decided org l (Some c) (rows_at org q t j o (r ∷ rs)) (r ∷ rs) row))) (sym last)
      (moves (r ∷ rs) c (ap job_is_done clear) next differ last after)
    where
      differ : {r : Record} {rs : List Record} → r ∷ rs ≡ [] → ⊥
      differ e = cc

  -- ---- both

  steps_in : (ph : Phase) → j.phase ≡ ph → job_is_done ph ≡ false → IsSound (step_in ph j t)
      → Does org q t (step_in ph j t) (if is_copy ph then copy_decided org l place (rows_at org q t j o (next_hundred t j)) (next_hundred t j) row else clear_decided org l place (rows_at org q t j o (next_hundred t j)) (next_hundred t j) row)
  steps_in phase.Copy at busy after = copies (next_hundred t j) at refl after
  steps_in phase.Clear at busy after = clears (next_hundred t j) at refl after
  steps_in phase.Done at busy after = absurd cc

  pub steps : job_is_done j.phase ≡ false → IsSound (job_step t) → Does org q t (job_step t) (decided org l place (rows_at org q t j o (next_hundred t j)) (next_hundred t j) row)
  steps busy after =
      subst (λ (u : Tenant). Does org q t u (decided org l place (rows_at org q t j o (next_hundred t j)) (next_hundred t j) row)) (sym (step_is t j is))
      (steps_in j.phase refl busy (subst IsSound (step_is t j is) after))
