-- A step of a tenant: what is decided, and what comes of the tables.
use Rattle.std.proofs.Common.{◌≡◌, ◌∙◌, ◌≢◌, ◌<◌, ◌^◌, ℕ, true, List, Option, Some, None, sym, ap, subst}
use Rattle.std.specs.Prelude.{Result, Ok, Err, Vec, IfOk, IfSome}
use Rattle.std.proofs.lemmas.Option.{same_Some as some_is}
use Rattle.retype_step.proofs.Facts.{FieldOf, ReadsRecords, field_there, next_read, place_there}
use Rattle.retype_step.proofs.Few.{PageRemovesNone, few_decided}
use Rattle.retype_step.proofs.Own.{HaveKeys, own_decided}
use Rattle.retype_step.proofs.PagesRead.{IsBusy, busy_is, idle}
use Rattle.retype_step.proofs.Ready.{ConvertsThere, FieldFits, Typed, name_fits, ready}
use Rattle.retype_step.proofs.Takes.{Does, StepLaws, layout_at, steps}
use Rattle.retype_step.specs.Background.{IsUnderWay, StepsIn}
use Rattle.retype_step.specs.inner.Deciding.{AreStep, DecidesBy, DecidesStep, IsWhole, TakesStep, decided}
use Rattle.retype_step.specs.inner.Pages.{IsRead, busy_row, next_rows}
use Rattle.store_edit.proofs.Making.{EditedIn, KeptIn, after_spelled}
use Rattle.store_edit.specs.Rows.{AreFew, AreOf, AreSpelled}
use Rattle.store_kv.specs.Tables.{Tables, after}
use Rattle.store_kv.specs.declared.keeper.Change.{Change as Spelled}
use Rattle.store_rows.specs.declared.data.DataRow.{DataRow}
use Rattle.store_rows.specs.declared.fail.StoreFail.{StoreFail}
use Rattle.store_rows.specs.declared.fail.StoreFail.TheVariants.{Damaged, Memory}
use Rattle.store_rows.specs.declared.job.JobRow.{JobRow}
use Rattle.store_rows.specs.Fails.{of_codec}
use Rattle.store_codec.specs.declared.fail.CodecFail.{CodecFail}
use Rattle.store_codec.specs.declared.fail.CodecFail.TheVariants as codec
use Rattle.model.specs.declared.record.Record.{Record}
use Rattle.model.specs.Jobs.{job_step, next_hundred}
use Rattle.model.specs.Sound.{IsSound}
use Rattle.model.specs.Tenant.{Job, Object, Tenant}
use Rattle.store_abstraction.specs.Changes.{Change, with_changes}
use Rattle.store_abstraction.specs.declared.layout.FieldPlace.{FieldPlace}
use Rattle.store_abstraction.specs.declared.layout.Layout.{Layout}
use Rattle.store_abstraction.specs.Layouts.{place_of}
use Rattle.store_abstraction.specs.Local.{FindsIn, KeepsOthers, StandsFor, StandsIn}
use Rattle.store_abstraction.specs.Metadata.{job_of}
use Rattle.store_abstraction.specs.Plan.{FitsPlan, OrgPlan}

-- ---- what is decided by a page

-- what the crates below say
pub record Laws : Type 0 where
  pub step : StepLaws
  pub sound : (t : Tenant) → IsSound t → IsSound (job_step t)
  pub reads : ReadsRecords
  pub typed : Typed
  pub converting : ConvertsThere
  pub field : FieldFits

module _ (laws : Laws) (org : ℕ) (lo : org < 2 ^ 32) (q : OrgPlan) (t : Tenant) (j : Job) (sound : IsSound t) (fits : FitsPlan q t) where
  -- what holds of what was read holds of the row, the layout and the rows that the tenant has
  at_read : (P : JobRow → Layout → List DataRow → Type 0) (row : JobRow) (l : Layout) (rows : List DataRow) (h : IsRead org q t j row l rows) → P (job_of org q j) (layout_at org q t j h.object) (next_rows org q t j h.object) → P row l rows
  at_read P row l rows h x =
      subst (λ (r : JobRow). P r l rows) (sym h.its) (subst (λ (k : Layout). P (job_of org q j) k rows) (sym h.layout) (subst (P (job_of org q j) (layout_at org q t j h.object)) (sym h.read) x))

  module _ (row : JobRow) (l : Layout) (rows : List DataRow) (h : IsRead org q t j row l rows) where
    abbrev o : Object
    o = h.object

    abbrev f : FieldOf t j o
    f = field_there t j o sound h.job h.there

    abbrev place : FieldPlace
    place = place_of q j.object (j.field, f.field)

    does : Does org q t (job_step t) (decided org (layout_at org q t j o) place (next_rows org q t j o) (next_hundred t j) (job_of org q j))
    does = steps laws.step org q t j o lo sound fits h.job h.there f h.busy (laws.sound t sound)

    pub is_whole : IsWhole org row l rows
    is_whole =
        let texts = name_fits laws.field org q t j o lo sound fits h.there f.field f.at in
        at_read (IsWhole org) row l rows h (record {
          field = place;
          there = place_there org q t j o f.field f.at;
          items = next_hundred t j;
          read = next_read laws.reads org q t j o sound fits h.there;
          ready = ready laws.typed laws.converting org q t j o sound fits h.there f;
          name = texts.0;
          child = texts.1;
          few = does.few;
        })

    pub decided_takes : {A : Type 0} (bytes : Vec Spelled A) → DecidesBy org row l rows bytes.items → TakesStep org q t (Ok bytes)
    decided_takes {A = A} bytes =
        at_read (λ (row : JobRow) (l : Layout) (rows : List DataRow). DecidesBy org row l rows bytes.items → TakesStep {A = A} org q t (Ok bytes)) row l rows h (λ d.
        let field : d.field ≡ place = some_is d.field place (sym d.there ∙ place_there org q t j o f.field f.at) in
        let items : d.items ≡ next_hundred t j = some_is d.items (next_hundred t j) (sym d.read ∙ next_read laws.reads org q t j o sound fits h.there) in
        let same : decided org (layout_at org q t j o) d.field (next_rows org q t j o) d.items (job_of org q j) ≡ decided org (layout_at org q t j o) place (next_rows org q t j o) (next_hundred t j) (job_of org q j)
        = ap (λ (f : FieldPlace). decided org (layout_at org q t j o) f (next_rows org q t j o) d.items (job_of org q j)) field ∙ ap (λ (rs : List Record). decided org (layout_at org q t j o) place (next_rows org q t j o) rs (job_of org q j)) items in
        (decided org (layout_at org q t j o) place (next_rows org q t j o) (next_hundred t j) (job_of org q j), subst (λ (cs : List Change). AreSpelled cs bytes.items) same d.are, does.takes (subst HaveKeys same d.keys)))

    -- where nothing is decided it isn't damaged
    pub never_damaged : (f : CodecFail) (e : StoreFail) → (IsWhole org row l rows → f ≡ codec.Memory) → e ≡ of_codec f → e ≢ Damaged
    never_damaged f e cause is d = absurd (differ (sym (is ∙ ap of_codec (cause is_whole)) ∙ d))
      where
        differ : Memory ≡ Damaged → ⊥
        differ e = cc

-- ---- whatever was read

pub decided_own : (org : ℕ) (row : JobRow) (l : Layout) (rows : List DataRow) (bytes : List Spelled) → l.org ≡ org → DecidesBy org row l rows bytes → AreOf org bytes
decided_own org row l rows bytes own d = (decided org l d.field rows d.items row, d.are, own_decided org l own d.field rows d.items row d.keys)

pub decided_few : PageRemovesNone → (org : ℕ) (row : JobRow) (l : Layout) (rows : List DataRow) (bytes : List Spelled) → DecidesBy org row l rows bytes → AreFew 201 0 bytes
decided_few gone org row l rows bytes d = few_decided gone org l d.field rows d.items row bytes d.are d.few

-- ---- the tables afterwards

module _ (edited : EditedIn) (kept : KeptIn) (org : ℕ) (lo : org < 2 ^ 32) (m then : Tables) where
  pub stepped_to : {A : Type 0} (q : OrgPlan) (t : Tenant) (bytes : Vec Spelled A) → StandsIn org q m (Some t) → TakesStep org q t (Ok bytes) → then ≡ after bytes.items m → StandsFor org then (Some (job_step t))
  stepped_to q t bytes s (changes, spelt, takes) made =
      let is : then ≡ with_changes changes m = made ∙ ap (λ (xs : List Spelled). after xs m) spelt ∙ after_spelled changes m in
      (takes.plan, subst (λ (z : Tables). StandsIn org takes.plan z (Some (job_step t))) (sym is) (edited m org t (job_step t) q takes.plan changes lo s takes.sound takes.fits takes.are takes.rest))

  pub others_stay : (bytes : List Spelled) → AreOf org bytes → then ≡ after bytes m → KeepsOthers org m then
  others_stay bytes (changes, spelt, are) made =
      subst (KeepsOthers org m) (sym (made ∙ ap (λ (xs : List Spelled). after xs m) spelt ∙ after_spelled changes m)) (kept m org changes lo are)

-- ---- the step of an organisation

module _ (org : ℕ) (m : Tables) (q : OrgPlan) (t : Tenant) (s : StandsIn org q m (Some t)) (r : Result (Option JobRow) StoreFail) (h : FindsIn org (busy_row org) m r) where
  pub nothing_to_do : r ≡ Ok None → job_step t ≡ t
  nothing_to_do was = idle org q t (subst (FindsIn org (busy_row org) m) was h q (Some t) s)

  pub under_way : (row : JobRow) → r ≡ Ok (Some row) → IsBusy org q t row
  under_way row was = busy_is org q t row (subst (FindsIn org (busy_row org) m) was h q (Some t) s)

-- what is said of the changes holds of them as what was judged
pub takes_so : {A : Type 0} (org : ℕ) (q : OrgPlan) (t : Tenant) (r : Result (Vec Spelled A) StoreFail) (bytes : Vec Spelled A) → r ≡ Ok bytes → IsUnderWay t → TakesStep org q t r → DecidesStep {A = A} org q t (Ok (Some bytes))
takes_so {A = A} org q t r bytes was moving h = (moving, subst (TakesStep {A = A} org q t) was h)

pub takes_failed : {A : Type 0} (org : ℕ) (q : OrgPlan) (t : Tenant) (r : Result (Vec Spelled A) StoreFail) (e : StoreFail) → r ≡ Err e → TakesStep org q t r → e ≢ Damaged
takes_failed {A = A} org q t r e was h = subst (TakesStep {A = A} org q t) was h

-- ---- the tables, by what was judged

abbrev pub Judged : {A : Type 0} → (org : ℕ) → Tables → Result (Option (Vec Spelled A)) StoreFail → Type 0
Judged org m r = (q : OrgPlan) (t : Tenant) → StandsIn org q m (Some t) → DecidesStep org q t r

pub steps_made : {A : Type 0} → EditedIn → KeptIn → (org : ℕ) → org < 2 ^ 32 → (m then : Tables) (r : Result (Option (Vec Spelled A)) StoreFail) (bytes : Vec Spelled A) → r ≡ Ok (Some bytes) → IfOk r (λ found. IfSome found (λ changes. AreStep org changes.items))
    → then ≡ after bytes.items m → Judged org m r → StepsIn org m then (Ok true)
steps_made {A = A} edited kept org lo m then r bytes was form made h = record {
  others = others_stay edited kept org lo m then bytes.items (subst (λ (x : Result (Option (Vec Spelled A)) StoreFail). IfOk x (λ found. IfSome found (λ changes. AreStep org changes.items))) was form).own made;
  stepped = λ q t s.
      let d = subst (DecidesStep {A = A} org q t) was (h q t s) in
      (d.0, stepped_to edited kept org lo m then q t bytes s d.1 made);
}
