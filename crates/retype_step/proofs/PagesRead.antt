-- What is read for a step of a tenant.
use Rattle.std.proofs.Common.{◌≡◌, ◌∙◌, ◌≢◌, ℕ, true, false, cond, List, [], map, Option, Some, None, refl, sym, ap, subst}
use Rattle.std.specs.Prelude.{IsErrAnd, Result, Ok, Err, Vec}
use Rattle.std.specs.Option.{option_map}
use Rattle.base_lemmas.proofs.Bools.{by_answer as pick}
use Rattle.std.proofs.lemmas.Option.{same_Some as some_is}
use Rattle.retype_step.proofs.Facts.{object_there}
use Rattle.retype_step.specs.declared.reading.Page.{Page}
use Rattle.retype_step.specs.inner.Pages.{FindsPage, IsRead, busy_row, next_rows, unless_done}
use Rattle.record_read.specs.Rows.{FindsRows, rows_of_records}
use Rattle.store_kv.specs.Tables.{Tables}
use Rattle.store_rows.specs.declared.data.DataRow.{DataRow}
use Rattle.store_rows.specs.declared.fail.StoreFail.{StoreFail}
use Rattle.store_rows.specs.declared.fail.StoreFail.TheVariants.{Damaged, Keeper, Memory}
use Rattle.store_rows.specs.declared.job.JobRow.{JobRow}
use Rattle.model.specs.Cases.{in_case}
use Rattle.model.specs.declared.record.Record.{Record}
use Rattle.model.specs.Jobs.{job_step, next_hundred, step_in}
use Rattle.model.specs.Objects.{Numbered, object_numbered}
use Rattle.model.specs.Retyping.{job_is_done}
use Rattle.model.specs.Tenant.{Job, Object, Tenant}
use Rattle.store_abstraction.specs.declared.layout.Layout.{Layout}
use Rattle.store_abstraction.specs.Entries.{data_of, slot_entry}
use Rattle.store_abstraction.specs.Layouts.{layout_of, numbered_at, own_change_row, own_layout, records_after}
use Rattle.store_abstraction.specs.Local.{FindsIn, FindsThere, StandsIn}
use Rattle.store_abstraction.specs.Metadata.{job_of}
use Rattle.store_abstraction.specs.Plan.{OrgPlan}
use Rattle.base_value.specs.declared.job.Phase.{Phase}
use Rattle.base_value.specs.declared.job.Phase.TheVariants as phase

-- ---- the change

pub busy_found : (org : ℕ) (m : Tables) (r : Result (Option JobRow) StoreFail) (row found : Option JobRow) → r ≡ Ok row → found ≡ unless_done row → FindsIn org (own_change_row org) m r → FindsIn org (busy_row org) m (Ok found)
busy_found org m r row found was is h = λ q t s. is ∙ ap unless_done (subst (FindsIn org (own_change_row org) m) was h q t s)

pub busy_failed : (org : ℕ) (m : Tables) (r : Result (Option JobRow) StoreFail) (e : StoreFail) → r ≡ Err e → FindsIn org (own_change_row org) m r → FindsIn org (busy_row org) m (Err e)
busy_failed org m r e was h = by e (subst (FindsIn org (own_change_row org) m) was h)
  where
    by : (e : StoreFail) → FindsIn org (own_change_row org) m (Err e) → FindsIn org (busy_row org) m (Err e)
    by Damaged h = h
    by Keeper h = tt
    by Memory h = tt

-- the change that is under way
pub record IsBusy (org : ℕ) (q : OrgPlan) (t : Tenant) (row : JobRow) : Type 0 where
  pub job : Job
  pub is : t.job ≡ Some job
  pub busy : job_is_done job.phase ≡ false
  pub its : row ≡ job_of org q job

change_is : (org : ℕ) (q : OrgPlan) (t : Tenant) (job : Option Job) → t.job ≡ job → own_change_row org q (Some t) ≡ option_map (job_of org q) job
unfolding own_change_row
change_is org q t job is = ap (option_map (job_of org q)) is

pub busy_is : (org : ℕ) (q : OrgPlan) (t : Tenant) (row : JobRow) → Some row ≡ busy_row org q (Some t) → IsBusy org q t row
busy_is org q t row e = by t.job refl
  where
    by : (job : Option Job) → t.job ≡ job → IsBusy org q t row
    by None is = absurd (none (e ∙ ap unless_done (change_is org q t None is)))
      where
        none : ◌≡◌ {A = Option JobRow} (Some row) None → ⊥
        none e = cc
    by (Some j) is =
        pick (job_is_done j.phase) (λ b. job_is_done j.phase ≡ b → Some row ≡ cond b None (Some (job_of org q j)) → IsBusy org q t row)
        (λ _ done f. absurd cc)
        (λ _ busy f. record { job = j; is = is; busy = busy; its = some_is row (job_of org q j) f })
        refl (e ∙ ap unless_done (change_is org q t (Some j) is))

-- where none is under way nothing is to be done
pub idle : (org : ℕ) (q : OrgPlan) (t : Tenant) → None ≡ busy_row org q (Some t) → job_step t ≡ t
unfolding job_step
idle org q t e = by t.job refl
  where
    none : (t : Tenant) → t.job ≡ None → in_case t.job t (λ (j : Job). step_in j.phase j t) ≡ t
    none t is = ap (λ (x : Option Job). in_case x t (λ (j : Job). step_in j.phase j t)) is

    finished : (j : Job) (ph : Phase) → job_is_done ph ≡ true → step_in ph j t ≡ t
    finished j phase.Done e = refl
    finished j phase.Copy e = absurd cc
    finished j phase.Clear e = absurd cc

    by : (job : Option Job) → t.job ≡ job → in_case t.job t (λ (j : Job). step_in j.phase j t) ≡ t
    by None is = none t is
    by (Some j) is =
        ap (λ (x : Option Job). in_case x t (λ (j : Job). step_in j.phase j t)) is
        ∙ pick (job_is_done j.phase) (λ b. job_is_done j.phase ≡ b → ◌≡◌ {A = Option JobRow} None (cond b None (Some (job_of org q j))) → step_in j.phase j t ≡ t)
        (λ _ done f. finished j j.phase done)
        (λ _ busy f. absurd cc)
        refl (e ∙ ap unless_done (change_is org q t (Some j) is))

-- ---- the layout

own_is : (org n : ℕ) (q : OrgPlan) (t : Option Tenant) (l : Layout) → Some l ≡ own_layout org n q t → l.org ≡ org
unfolding own_layout
own_is org n q None l e = absurd cc
own_is org n q (Some u) l e = by (numbered_at u n) e
  where
    by : (o : Option Numbered) → Some l ≡ option_map (layout_of org q u) o → l.org ≡ org
    by None e = absurd cc
    by (Some o) e = ap (λ (l : Layout). l.org) (some_is l (layout_of org q u o) e)

pub layout_found : (org n : ℕ) (m : Tables) (r : Result (Option Layout) StoreFail) (l : Layout) → r ≡ Ok (Some l) → FindsIn org (own_layout org n) m r → FindsThere org (own_layout org n) m (Ok (record l { org = org }))
layout_found org n m r l was h = λ q t s.
    let found : Some l ≡ own_layout org n q t = subst (FindsIn org (own_layout org n) m) was h q t s in
    ap (λ (k : ℕ). Some (record l { org = k })) (sym (own_is org n q t l found)) ∙ found

-- ---- the page

own_there : (org n : ℕ) (q : OrgPlan) (t : Tenant) (o : Object) → object_numbered t n ≡ Some o → own_layout org n q (Some t) ≡ Some (layout_of org q t (record { number = n; object = o }))
unfolding own_layout
own_there org n q t o there = ap (λ (x : Option Object). option_map (layout_of org q t) (option_map (λ (o : Object). record { number = n; object = o }) x)) there

after_is : (t : Tenant) (j : Job) → records_after j.object j.cursor 100 t ≡ next_hundred t j
unfolding records_after
after_is t j = refl

-- what a page's rows are, or why there are none
abbrev AreRows : {A : Type 0} → List DataRow → Result (Vec DataRow A) StoreFail → Type 0
AreRows rows (Ok v) = v.items ≡ rows
AreRows rows (Err e) = e ≢ Damaged

module _ (org : ℕ) (m : Tables) (q : OrgPlan) (t : Tenant) (j : Job) (s : StandsIn org q m (Some t)) (is : t.job ≡ Some j) where
  abbrev held : (o : Object) × (object_numbered t j.object ≡ Some o)
  held = object_there t j s.sound is

  abbrev o : Object
  o = held.0

  abbrev laid : Layout
  laid = layout_of org q t (record { number = j.object; object = o })

  pub layout_is : (n : ℕ) → n ≡ j.object → (r : Result Layout StoreFail) (l : Layout) → r ≡ Ok l → FindsThere org (own_layout org n) m r → l ≡ laid
  layout_is n same r l was h =
      some_is l laid
      (subst (FindsThere org (own_layout org n) m) was h q (Some t) s ∙ ap (λ (n : ℕ). own_layout org n q (Some t)) same ∙ own_there org j.object q t o held.1)

  pub no_layout : (n : ℕ) → n ≡ j.object → (r : Result Layout StoreFail) (e : StoreFail) → r ≡ Err e → FindsThere org (own_layout org n) m r → e ≢ Damaged
  no_layout n same r e was h damaged = by e damaged (subst (FindsThere org (own_layout org n) m) was h)
    where
      absent : ◌≡◌ {A = Option Layout} (Some laid) None → ⊥
      absent e = cc

      by : (e : StoreFail) → e ≡ Damaged → FindsThere org (own_layout org n) m (Err e) → ⊥
      by Damaged d h = absent (sym (ap (λ (n : ℕ). own_layout org n q (Some t)) same ∙ own_there org j.object q t o held.1) ∙ h q (Some t) s)
      by Keeper d h = absurd cc
      by Memory d h = absurd cc

  laid_rows : (rs : List Record) → rows_of_records q t laid rs ≡ map (λ r. data_of org j.object r (slot_entry q t.job j.object o r)) rs
  laid_rows rs = ap (λ (x : Option Object). in_case x [] (λ (o : Object). map (λ (r : Record). data_of org j.object r (slot_entry q t.job j.object o r)) rs)) held.1

  rows_at : {A : Type 0} (r : Result (Vec DataRow A) StoreFail) → FindsRows laid (records_after j.object j.cursor 100) m r → AreRows (next_rows org q t j o) r
  rows_at (Ok v) h = h q t s (own_there org j.object q t o held.1) ∙ laid_rows (records_after j.object j.cursor 100 t) ∙ ap (map (λ (r : Record). data_of org j.object r (slot_entry q t.job j.object o r))) (after_is t j)
  rows_at (Err Damaged) h = absurd (h q t s (own_there org j.object q t o held.1))
  rows_at (Err Keeper) h = λ e. absurd cc
  rows_at (Err Memory) h = λ e. absurd cc

  rows_so : {A : Type 0} (l : Layout) (after : Option (List ℕ)) (r : Result (Vec DataRow A) StoreFail) → l ≡ laid → after ≡ j.cursor → FindsRows l (records_after l.object after 100) m r → AreRows (next_rows org q t j o) r
  rows_so l after r same come h =
      rows_at r (subst (λ (c : Option (List ℕ)). FindsRows laid (records_after j.object c 100) m r) come (subst (λ (k : Layout). FindsRows k (records_after k.object after 100) m r) same h))

  pub page_read : {A : Type 0} (row : JobRow) (l : Layout) (after : Option (List ℕ)) (r : Result (Vec DataRow A) StoreFail) (v : Vec DataRow A) (rows : List DataRow) → row ≡ job_of org q j → job_is_done j.phase ≡ false → l ≡ laid → after ≡ row.cursor
      → r ≡ Ok v → rows ≡ v.items → FindsRows l (records_after l.object after 100) m r → IsRead org q t j row l rows
  page_read row l after r v rows its busy same come was are h = record {
    job = is;
    busy = busy;
    its = its;
    object = o;
    there = held.1;
    layout = same;
    read = are ∙ subst (AreRows (next_rows org q t j o)) was (rows_so l after r same (come ∙ ap (λ (x : JobRow). x.cursor) its) h);
  }

  pub no_page : {A : Type 0} (row : JobRow) (l : Layout) (after : Option (List ℕ)) (r : Result (Vec DataRow A) StoreFail) (e : StoreFail) → row ≡ job_of org q j → l ≡ laid → after ≡ row.cursor
      → r ≡ Err e → FindsRows l (records_after l.object after 100) m r → e ≢ Damaged
  no_page row l after r e its same come was h = subst (AreRows (next_rows org q t j o)) was (rows_so l after r same (come ∙ ap (λ (x : JobRow). x.cursor) its) h)

-- a failure that is passed on
pub page_fails : (org : ℕ) (q : OrgPlan) (t : Tenant) (j : Job) (r : Result Page StoreFail) (e : StoreFail) → IsErrAnd r (λ y. y ≡ e) → e ≢ Damaged → FindsPage org q t j r
page_fails org q t j (Ok page) e is h = absurd is
page_fails org q t j (Err y) e is h = λ d. h (sym is ∙ d)
