-- A change that is called off while it copies: its row alone is put.
use Rattle.std.proofs.Common.{◌≡◌, ◌∙◌, ℕ, ◌<◌, ◌^◌, Bool, true, false, not, ◌&&◌, cond, IsTrue, List, [], ◌∷◌, Option, None, Some, refl, sym, ap, subst}
use Rattle.std.specs.Prelude.{Err, IsErrAnd, Ok, Result, is_some}
use Rattle.std.specs.Option.{option_map}
use Rattle.std.proofs.lemmas.Option.{same_Some as some_is}
use Rattle.store_edit.specs.Edits.{FailsBy, Takes}
use Rattle.store_edit.specs.Rows.{change_to}
use Rattle.store_kv.specs.Tables.{Tables}
use Rattle.store_rows.specs.declared.fail.StoreFail.{StoreFail}
use Rattle.store_rows.specs.declared.job.JobRow.{JobRow}
use Rattle.store_rows.specs.Rows.{job_form}
use Rattle.model.specs.Cases.{in_case}
use Rattle.model.specs.declared.refusal.Refusal.TheVariants.{NotFound}
use Rattle.model.specs.Retyping.{cancel_retype, to_clear, with_job}
use Rattle.model.specs.RuleFormulas.{is_copy}
use Rattle.model.specs.Rules.{refuse_if}
use Rattle.model.specs.Sound.{IsSound}
use Rattle.model.specs.SoundJob.{HasSoundJob, IsSoundJob, is_failed, is_open}
use Rattle.model.specs.Tenant.{Job, Tenant}
use Rattle.model.specs.Verdict.{Verdict, accept, done, judged, refuse}
use Rattle.retype_request.specs.inner.Beginning.{row_by}
use Rattle.retype_request.specs.inner.Cancelling.{Cancels, CancelsTo, copying_by}
use Rattle.store_abstraction.specs.declared.fail.EditFail.{EditFail}
use Rattle.store_abstraction.specs.Layouts.{own_change_row}
use Rattle.store_abstraction.specs.Local.{FindsIn, StandsIn}
use Rattle.store_abstraction.specs.Metadata.{job_of}
use Rattle.store_abstraction.specs.Plan.{FitsPlan, OrgPlan, slot_type}
use Rattle.retype_cutover.specs.Switch.{any_plan, stopped_plan}
use Rattle.base_value.specs.declared.job.Outcome.{Outcome}
use Rattle.base_value.specs.declared.job.Outcome.TheVariants as outcome
use Rattle.base_value.specs.declared.job.Phase.{Phase}
use Rattle.base_value.specs.declared.job.Phase.TheVariants as phase
use Rattle.base_value.specs.declared.value.FieldType.{FieldType}
use Rattle.base_value.specs.Types.{is_reference, is_type}

-- ---- what was read

-- the change that copies, and its row
pub record Copying (org : ℕ) (q : OrgPlan) (t : Tenant) (row : JobRow) : Type 0 where
  pub job : Job
  pub there : t.job ≡ Some job
  pub copies : job.phase ≡ phase.Copy
  pub is : row ≡ job_of org q job

is_copying : (p : Phase) → is_copy p ≡ true → p ≡ phase.Copy
is_copying phase.Copy e = refl
is_copying phase.Clear e = absurd cc
is_copying phase.Done e = absurd cc

chosen : (org : ℕ) (q : OrgPlan) (t : Tenant) (row : JobRow) → copying_by (own_change_row org q (Some t)) ≡ Some row → Copying org q t row
unfolding own_change_row
chosen org q t row e = by t.job refl e
  where
    by : (job : Option Job) → t.job ≡ job → copying_by (option_map (job_of org q) job) ≡ Some row → Copying org q t row
    by None there e = absurd cc
    by (Some j) there e = so (is_copy j.phase) refl e
      where
        so : (b : Bool) → is_copy j.phase ≡ b → cond b (Some (job_of org q j)) None ≡ Some row → Copying org q t row
        so true copies e = record { job = j; there = there; copies = is_copying j.phase copies; is = sym (some_is (job_of org q j) row e) }
        so false copies e = absurd cc

abbrev cancels : Tenant → Job → Verdict
cancels t j = judged t (refuse_if (not (is_copy j.phase)) NotFound ∷ []) (accept done (with_job (to_clear outcome.Cancelled j) t))

none_copies : (org : ℕ) (q : OrgPlan) (t : Tenant) → copying_by (own_change_row org q (Some t)) ≡ None → (cancel_retype t).answer ≡ Err NotFound
unfolding own_change_row
none_copies org q t e = by t.job e
  where
    by : (job : Option Job) → copying_by (option_map (job_of org q) job) ≡ None → (in_case job (refuse t NotFound) (cancels t)).answer ≡ Err NotFound
    by None e = refl
    by (Some j) e = so (is_copy j.phase) e
      where
        so : (b : Bool) → cond b (Some (job_of org q j)) None ≡ None → (judged t (refuse_if (not b) NotFound ∷ []) (accept done (with_job (to_clear outcome.Cancelled j) t))).answer ≡ Err NotFound
        so true e = absurd cc
        so false e = refl

module _ (org : ℕ) (q : OrgPlan) (m : Tables) (t : Tenant) (r : Result (Option JobRow) StoreFail) (found : Option JobRow) (h : FindsIn org (own_change_row org) m r) (was : r ≡ Ok found) (s : StandsIn org q m (Some t)) where
  found_is : found ≡ own_change_row org q (Some t)
  found_is = subst (FindsIn org (own_change_row org) m) was h q (Some t) s

  pub copying_read : (row : JobRow) → Some row ≡ copying_by found → Copying org q t row
  copying_read row e = chosen org q t row (sym (e ∙ ap copying_by found_is))

  pub nothing_read : None ≡ copying_by found → (cancel_retype t).answer ≡ Err NotFound
  nothing_read e = none_copies org q t (sym (e ∙ ap copying_by found_is))

-- ---- its row, called off

sound_job : (t : Tenant) (j : Job) → IsSound t → t.job ≡ Some j → IsSoundJob t.counter t.objects t.records j
sound_job t j s e = subst (HasSoundJob t.counter t.objects t.records) e s.job

-- the type in the slot is the new one
type_is : (q : OrgPlan) (j : Job) → j.phase ≡ phase.Copy → slot_type q j j.phase j.outcome ≡ j.to
type_is q j copies = ap (λ (p : Phase). slot_type q j p j.outcome) copies

module _ (org : ℕ) (q : OrgPlan) (t : Tenant) (row : JobRow) (sound : IsSound t) (c : Copying org q t row) where
  kind_is : row.kind ≡ c.job.to
  kind_is = ap (λ (r : JobRow). r.kind) c.is ∙ type_is q c.job c.copies

  pub its_type : IsTrue (is_type row.kind && not (is_reference row.kind))
  its_type = subst (λ (k : FieldType). IsTrue (is_type k && not (is_reference k))) (sym kind_is) (sound_job t c.job sound c.there).change.to

  pub cancels_so : (made : JobRow) → made ≡ row_by org row.object row.field row.kind row.twin phase.Clear outcome.Cancelled → Cancels org q t made
  cancels_so made e = record {
    job = c.job;
    there = c.there;
    copies = c.copies;
    made = e
        ∙ ap (λ (k : FieldType). row_by org row.object row.field k row.twin phase.Clear outcome.Cancelled) kind_is
        ∙ ap (λ (r : JobRow). row_by org r.object r.field c.job.to r.twin phase.Clear outcome.Cancelled) c.is;
  }

-- a failure is passed on
pub cancels_not : (org : ℕ) (q : OrgPlan) (t : Tenant) (e : EditFail) (r : Result JobRow EditFail) → IsErrAnd r (λ y. y ≡ e) → FailsBy (cancel_retype t) e → CancelsTo org q t r
cancels_not org q t e (Ok row) passed h = absurd passed
cancels_not org q t e (Err y) passed h = subst (FailsBy (cancel_retype t)) (sym passed) h

-- ---- what is changed

-- what `retype_cutover` says of an end before time
abbrev pub StopsLaw : Type 0
StopsLaw = (org : ℕ) (q : OrgPlan) (t : Tenant) (j : Job) (x : Outcome) (failed : Option (List ℕ)) → org < 2 ^ 32 → IsSound t → FitsPlan q t → t.job ≡ Some j → j.phase ≡ phase.Copy → (x ≡ outcome.Switched → ⊥)
    → IsSound (with_job (record (to_clear x j) { failed = failed }) t)
    → Takes org q t (accept done (with_job (record (to_clear x j) { failed = failed }) t)) done any_plan (change_to job_form (job_of org (stopped_plan q t j) (record (to_clear x j) { failed = failed })) ∷ [])

abbrev pub CancelsSound : Type 0
CancelsSound = (t : Tenant) → IsSound t → IsSound (cancel_retype t).tenant

-- nothing has failed while it copies
unfailed : (j : Job) (p : Phase) (o : Outcome) (failed : Option (List ℕ)) → p ≡ phase.Copy → is_open o ≡ is_copy p → is_some failed ≡ is_failed o → failed ≡ None
unfailed j p o None copies opens fails = refl
unfailed j p o (Some i) copies opens fails = by o (opens ∙ ap is_copy copies) fails
  where
    by : (o : Outcome) → is_open o ≡ true → true ≡ is_failed o → ◌≡◌ {A = Option (List ℕ)} (Some i) None
    by outcome.Open e f = absurd cc
    by outcome.Switched e f = absurd cc
    by outcome.Failed e f = absurd cc
    by outcome.Cancelled e f = absurd cc

pub cancelled_takes : StopsLaw → CancelsSound → (org : ℕ) (q : OrgPlan) (t : Tenant) (row : JobRow) → org < 2 ^ 32 → IsSound t → FitsPlan q t → Cancels org q t row → Takes org q t (cancel_retype t) done any_plan (change_to job_form row ∷ [])
cancelled_takes law keeps org q t row small sound plan c =
    let j = c.job in
    let u = with_job (to_clear outcome.Cancelled j) t in
    let same : cancel_retype t ≡ accept done u =
    ap (λ (x : Option Job). in_case x (refuse t NotFound) (cancels t)) c.there
    ∙ ap (λ (p : Phase). judged t (refuse_if (not (is_copy p)) NotFound ∷ []) (accept done u)) c.copies in
    let sound_u : IsSound u = subst IsSound (ap (λ (v : Verdict). v.tenant) same) (keeps t sound) in
    let its = sound_job t j sound c.there in
    let none : j.failed ≡ None = unfailed j j.phase j.outcome j.failed c.copies its.open_in_copy its.failed_where in
    let is : row ≡ job_of org (stopped_plan q t j) (to_clear outcome.Cancelled j) =
    c.made ∙ ap (λ (failed : Option (List ℕ)). record (row_by org j.object j.field j.to q.other phase.Clear outcome.Cancelled) { failed = failed }) (sym none) in
    let takes : Takes org q t (accept done u) done any_plan (change_to job_form (job_of org (stopped_plan q t j) (to_clear outcome.Cancelled j)) ∷ []) =
    law org q t j outcome.Cancelled j.failed small sound plan c.there c.copies apart sound_u in
    subst (λ (y : Verdict). Takes org q t y done any_plan (change_to job_form row ∷ [])) (sym same)
    (subst (λ (r : JobRow). Takes org q t (accept done u) done any_plan (change_to job_form r ∷ [])) (sym is) takes)
  where
    apart : outcome.Cancelled ≡ outcome.Switched → ⊥
    apart e = cc
