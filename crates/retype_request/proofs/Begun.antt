-- A change that begins puts its row, in a slot that is no field's.
use Rattle.std.proofs.Common.{◌≡◌, ◌∙◌, ℕ, zero, suc, ◌+◌, ◌<◌, ◌≤◌, ◌^◌, Bool, true, false, not, ◌&&◌, ◌||◌, eqb, IsTrue, List, [], ◌∷◌, length, map, Option, Some, refl, sym, ap, subst, arith}
use Rattle.std.specs.Prelude.{Err, IfErr, Ok, Result, is_some, slice_get}
use Rattle.std.specs.List.{AllByRecursion, enumerate_from, list_any}
use Rattle.std.specs.Option.{option_and_then}
use Rattle.std.proofs.lemmas.Bool.{true≢false as true_false, or_right}
use Rattle.base_lemmas.proofs.Numbers.{eqb-self as eqb_same}
use Rattle.store_edit.specs.Edits.{FailsBy, Planned, Takes}
use Rattle.store_edit.specs.Rows.{change_to}
use Rattle.store_rows.specs.declared.fail.StoreFail.{StoreFail}
use Rattle.store_rows.specs.declared.job.JobRow.{JobRow}
use Rattle.store_rows.specs.Forms.{FitsForm}
use Rattle.store_rows.specs.Rows.{job_form}
use Rattle.schema_edit.proofs.Editing.{named_at}
use Rattle.schema_edit.specs.Slots.{IsLeastFree}
use Rattle.model.specs.declared.limit.Limit.TheVariants as limit
use Rattle.model.specs.declared.metadata_bodies.SpelledType.{SpelledType}
use Rattle.model.specs.Limits.{limit_number}
use Rattle.model.specs.Objects.{Numbered, object_numbered}
use Rattle.model.specs.Retyping.{new_job, new_type, with_job}
use Rattle.model.specs.Sound.{IsSound}
use Rattle.model.specs.Tenant.{Field, Job, Object, Tenant}
use Rattle.model.specs.Verdict.{Verdict, accept, done}
use Rattle.retype_request.specs.declared.judging.Chosen.{Chosen}
use Rattle.retype_request.specs.inner.Beginning.{Begins, BeginsBy, begin_by, row_by}
use Rattle.retype_request.proofs.Busy.{all_done}
use Rattle.store_abstraction.specs.Changes.{Change}
use Rattle.store_abstraction.specs.declared.fail.EditFail.{EditFail}
use Rattle.store_abstraction.specs.declared.layout.FieldPlace.{FieldPlace}
use Rattle.store_abstraction.specs.declared.layout.Layout.{Layout}
use Rattle.store_abstraction.specs.Fails.{of_store}
use Rattle.store_abstraction.specs.Layouts.{layout_of, place_of}
use Rattle.store_abstraction.specs.Local.{IsIn}
use Rattle.store_abstraction.specs.Metadata.{job_of}
use Rattle.store_abstraction.specs.Plan.{FitsPlan, OrgPlan, has_field, slot_count}
use Rattle.store_abstraction.specs.Records.{has_free, is_free}
use Rattle.store_abstraction.proofs.MetadataRows.{sound_object}
use Rattle.store_abstraction.proofs.Spelled.{plain_type_fits}
use Rattle.base_value.specs.declared.job.Outcome.{Outcome}
use Rattle.base_value.specs.declared.job.Outcome.TheVariants as outcome
use Rattle.base_value.specs.declared.job.Phase.{Phase}
use Rattle.base_value.specs.declared.job.Phase.TheVariants as phase
use Rattle.base_value.specs.declared.value.FieldType.{FieldType}
use Rattle.base_value.specs.Types.{is_reference, is_type}

-- ---- the slot

first_not : (a b : Bool) → (not a && b) ≡ true → a ≡ false
first_not true b e = absurd cc
first_not false b e = refl

-- the slot of a field is among those of its object's layout
its_slot : (q : OrgPlan) (n k : ℕ) (fields : List Field) (f s : ℕ) → is_some (slice_get fields f) ≡ true → q.slot n (k + f) ≡ s
    → list_any (λ (p : FieldPlace). eqb p.slot s) (map (place_of q n) (enumerate_from k fields)) ≡ true
its_slot q n k [] zero s there is = absurd cc
its_slot q n k [] (suc f) s there is = absurd cc
its_slot q n k (x ∷ fields) zero s there is =
    let here : k + 0 ≡ k = omega arith in
    let same : q.slot n k ≡ s = ap (q.slot n) (sym here) ∙ is in
    ap (λ (b : Bool). b || list_any (λ (p : FieldPlace). eqb p.slot s) (map (place_of q n) (enumerate_from (k + 1) fields))) (ap (λ (m : ℕ). eqb m s) same ∙ eqb_same s)
its_slot q n k (x ∷ fields) (suc f) s there is =
    let next : (k + 1) + f ≡ k + suc f = omega arith in
    or_right (eqb (q.slot n k) s) (list_any (λ (p : FieldPlace). eqb p.slot s) (map (place_of q n) (enumerate_from (k + 1) fields)))
    (its_slot q n (k + 1) fields f s there (ap (q.slot n) next ∙ is))

pub free_slot_apart : (org : ℕ) (q : OrgPlan) (t : Tenant) (o : Numbered) (s : ℕ) → object_numbered t o.number ≡ Some o.object → IsTrue (has_free (layout_of org q t o) s)
    → (f : ℕ) → IsTrue (has_field t o.number f) → q.slot o.number f ≡ s → ⊥
free_slot_apart org q t o s there free f has is =
    let there_so : is_some (slice_get o.object.fields f) ≡ true = subst (λ (x : Option Object). is_some (option_and_then (λ (v : Object). slice_get v.fields f) x) ≡ true) there has in
    let from : 0 + f ≡ f = omega arith in
    let taken = its_slot q o.number 0 o.object.fields f s there_so (ap (q.slot o.number) from ∙ is) in
    let none = first_not (list_any (λ (p : FieldPlace). eqb p.slot s) (layout_of org q t o).fields) _ free in
    true_false (sym taken ∙ none)

-- what `store_abstraction` says of slots
abbrev pub SlotsFree : Type 0
SlotsFree = (p : OrgPlan) (job : Option Job) (n : ℕ) (o : Object) → length o.fields ≤ limit_number limit.FieldsPerObject → (s : ℕ) × (s < slot_count) × IsTrue (is_free p job n o s)

abbrev pub SlotsSeen : Type 0
SlotsSeen = (p : OrgPlan) (t : Tenant) (org n : ℕ) (o : Object) (s : ℕ) → has_free (layout_of org p t (record { number = n; object = o })) s ≡ is_free p t.job n o s

-- the slot that is chosen is free
pub free_in : (org : ℕ) (q : OrgPlan) (t : Tenant) (object field : List ℕ) (to : FieldType) (x : Chosen) → Begins org q t object field to x → IsSound t → SlotsFree → SlotsSeen → (slot : ℕ)
    → ((s : ℕ) → s < 48 → IsTrue (has_free x.layout s) → IsLeastFree x.layout slot) → IsTrue (has_free x.layout slot)
free_in org q t object field to x begins sound free seen slot least =
    let o = begins.numbered in
    let few = (sound_object t o.number o.object sound (named_at t object o begins.there)).few_fields in
    let (s, below, is) = free q t.job o.number o.object few in
    (least s below (subst (λ (l : Layout). IsTrue (has_free l s)) (sym begins.layout) (seen q t org o.number o.object s ∙ is))).free

-- ---- what is changed

-- what `retype_cutover` says of a beginning
abbrev pub BeginsLaw : Type 0
BeginsLaw = (org : ℕ) (q : OrgPlan) (t : Tenant) (n i s : ℕ) (to : FieldType) → org < 2 ^ 32 → IsSound t → FitsPlan q t → ((j : Job) → t.job ≡ Some j → j.phase ≡ phase.Done) → s < 48
    → ((f : ℕ) → IsTrue (has_field t n f) → q.slot n f ≡ s → ⊥) → IsSound (with_job (new_job n i to) t)
    → Takes org q t (accept done (with_job (new_job n i to) t)) done (λ q t next. next ≡ record q { other = s }) (change_to job_form (job_of org (record q { other = s }) (new_job n i to)) ∷ [])

-- another slot, and all else as it was
abbrev pub OtherSlot : Planned
OtherSlot q t next = next ≡ record q { other = next.other }

in_some_slot : (org : ℕ) (q : OrgPlan) (t : Tenant) (v : Verdict) (s : ℕ) (changes : List Change) → Takes org q t v done (λ q t next. next ≡ record q { other = s }) changes → Takes org q t v done OtherSlot changes
in_some_slot org q t v s changes x = record {
  answer = x.answer;
  sound = x.sound;
  plan = x.plan;
  kept = subst (λ (p : OrgPlan). p ≡ record q { other = p.other }) (sym x.kept) refl;
  fits = x.fits;
  are = x.are;
  rest = x.rest;
}

-- what is no reference, and within its bounds
abbrev pub plain : FieldType → Bool
plain k = is_type k && not (is_reference k)

abbrev pub begun_row : (org : ℕ) → Chosen → FieldType → (slot : ℕ) → JobRow
begun_row org x to s = row_by org x.layout.object x.field to s phase.Copy outcome.Open

pub begun_org : (org : ℕ) (x : Chosen) (to : FieldType) (s : ℕ) (row : JobRow) → row ≡ begun_row org x to s → row.org ≡ org
begun_org org x to s row made = ap (λ (r : JobRow). r.org) made

pub begun_same : (org : ℕ) (x : Chosen) (to k : FieldType) (s : ℕ) (row : JobRow) → row ≡ begun_row org x to s → to ≡ k → row ≡ begun_row org x k s
begun_same org x to k s row made is = made ∙ ap (λ (k : FieldType). begun_row org x k s) is

-- what was chosen for the type that is spelled
pub begun_so : (org : ℕ) (q : OrgPlan) (t : Tenant) (object field : List ℕ) (spelled : SpelledType) (to : FieldType) (r : Result Chosen EditFail) (x : Chosen) → to ≡ new_type spelled → BeginsBy org q t object field to r → r ≡ Ok x
    → Begins org q t object field (new_type spelled) x
begun_so org q t object field spelled to r x is h was = subst (λ (k : FieldType). Begins org q t object field k x) is (subst (BeginsBy org q t object field to) was h)

module _ (org : ℕ) (q : OrgPlan) (t : Tenant) (object field : List ℕ) (to : FieldType) (x : Chosen) (begins : Begins org q t object field to x) (sound : IsSound (begin_by t object field to).tenant) where
  abbrev o : Numbered
  o = begins.numbered

  sound_after : IsSound (with_job (new_job o.number x.field to) t)
  sound_after = subst IsSound (ap (λ (v : Verdict). v.tenant) begins.accepted) sound

  -- the type is within its bounds, and no reference
  pub its_type : IsTrue (plain to)
  its_type = sound_after.job.change.to

  pub begun_takes : BeginsLaw → org < 2 ^ 32 → IsSound t → FitsPlan q t → (s : ℕ) → s < 48 → IsTrue (has_free x.layout s) → (row : JobRow) → row ≡ begun_row org x to s
      → Takes org q t (begin_by t object field to) done OtherSlot (change_to job_form row ∷ [])
  begun_takes law small sound_t plan s below free row made =
      let there = named_at t object o begins.there in
      let v = accept done (with_job (new_job o.number x.field to) t) in
      let apart = free_slot_apart org q t o s there (subst (λ (l : Layout). IsTrue (has_free l s)) begins.layout free) in
      let takes = law org q t o.number x.field s to small sound_t plan (all_done t begins.idle) below apart sound_after in
      let is : row ≡ job_of org (record q { other = s }) (new_job o.number x.field to) = made ∙ ap (λ (l : Layout). row_by org l.object x.field to s phase.Copy outcome.Open) begins.layout in
      subst (λ (y : Verdict). Takes org q t y done OtherSlot (change_to job_form row ∷ [])) (sym begins.accepted)
      (subst (λ (r : JobRow). Takes org q t v done OtherSlot (change_to job_form r ∷ [])) (sym is)
      (in_some_slot org q t v s (change_to job_form (job_of org (record q { other = s }) (new_job o.number x.field to)) ∷ []) takes))

-- the row is at the organisation's key
pub row_own : (org : ℕ) (row : JobRow) → FitsForm job_form row → row.org ≡ org → AllByRecursion (IsIn org) (change_to job_form row ∷ [])
row_own org row fits own = ((job_form.fits (job_form.keyed row) fits.0, ap (λ (n : ℕ). Some n) own), tt)

-- the row isn't made only where its type is out of bounds
pub not_made : {X : Type 0} (v : Verdict) (r : Result X StoreFail) (e : StoreFail) → IfErr r (λ e. ⊥) → r ≡ Err e → FailsBy v (of_store e)
not_made {X} v r e h was = absurd (subst (λ (r : Result X StoreFail). IfErr r (λ e. ⊥)) was h)

-- the row of a change that is at no record has a spelling
pub row_fits : (org object field : ℕ) (kind : FieldType) (twin : ℕ) (p : Phase) (x : Outcome) → org < 2 ^ 32 → object < 2 ^ 16 → field < 256 → twin < 256 → is_type kind ≡ true → is_reference kind ≡ false → FitsForm job_form (row_by org object field kind twin p x)
row_fits org object field kind twin p x lo small low below typed plain = (lo, (small, (low, (plain_type_fits kind typed plain, (below, (refl, (refl, (tt, tt))))))))
