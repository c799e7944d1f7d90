-- A change that begins, is called off, fails or is done: the row of the change alone is another.
use Rattle.std.proofs.Common.{◌≡◌, ℕ, true, false, ◌&&◌, cond, eqb, List, [], filter, Option, Some, None, refl, sym, ap, ◌∙◌, subst, map-id}
use Rattle.std.specs.Prelude.{slice_get}
use Rattle.std.proofs.lemmas.Bool.{eqb-true}
use Rattle.std.specs.Option.{option_and_then, option_map}
use Rattle.base_lemmas.proofs.Bools.{by_answer as pick}
use Rattle.store_rows.specs.Keys.{Key, Version, Org, Object, Field, Job, User, Role, Group, Validation, Sharing, Data, Index, Unique, Relation, Owner, Share, Grant}
use Rattle.model.specs.declared.record.Record.{Record}
use Rattle.model.specs.Cases.{in_case}
use Rattle.model.specs.Jobs.{is_past, next_hundred}
use Rattle.model.specs.Membership.{Has}
use Rattle.model.specs.Objects.{is_of, object_numbered, records_of}
use Rattle.model.specs.Retyping.{new_job, to_clear}
use Rattle.model.specs.Sound.{IsSound}
use Rattle.model.specs.Tenant as model
use Rattle.model.specs.Tenant.{Tenant}
use Rattle.store_abstraction.specs.Entries.{Entry, field_entry, job_entry, job_value, other_entry, slot_entry, slot_field}
use Rattle.store_abstraction.specs.Plan.{OrgPlan, slot_type, type_there}
use Rattle.store_abstraction.specs.Records.{object_of_records}
use Rattle.store_abstraction.specs.Stands.{row_in}
use Rattle.store_abstraction.proofs.Kept.{kept, none}
use Rattle.store_abstraction.proofs.Placed.{kept_alike, no_records}
use Rattle.base_value.specs.declared.job.Outcome.{Outcome}
use Rattle.base_value.specs.declared.job.Outcome.TheVariants as outcome
use Rattle.base_value.specs.declared.job.Phase.{Phase}
use Rattle.base_value.specs.declared.job.Phase.TheVariants as phase
use Rattle.base_value.specs.declared.value.FieldType.{FieldType}
use Rattle.base_value.specs.declared.value.Value.{Value}
use Rattle.retype_cutover.specs.Switch.{stopped_plan}
use Rattle.retype_cutover.proofs.Keys.{is_job_key}
use Rattle.retype_cutover.proofs.Lists.{filter_has, found_itself, take_none}
use Rattle.retype_cutover.proofs.Values.{entry_of}

-- the plan with another slot of the change, and other values that are left
abbrev pub with_other : ℕ → (List ℕ → Option Value) → OrgPlan → OrgPlan
with_other s left p = record p { other = s; left = left }

module _ (p : OrgPlan) (other : ℕ) (left : List ℕ → Option Value) (t : Tenant) (job : Option model.Job) (sound : IsSound t) where
  abbrev q : OrgPlan
  q = with_other other left p

  abbrev u : Tenant
  u = record t { job = job }

  -- what is in the slot of the change stays, of each record
  abbrev OthersStay : Type 0
  OthersStay =
      (n : ℕ) (o : model.Object) (r : Record)
      (s : ℕ) → object_numbered t n ≡ Some o → Has t.records r → is_of n r ≡ true → other_entry q job n o r s ≡ other_entry p t.job n o r s

  module _ (stay : OthersStay) where
    entry_stays : (n : ℕ) (o : model.Object) (r : Record) (s : ℕ) → object_numbered t n ≡ Some o → Has t.records r → is_of n r ≡ true
        → slot_entry q job n o r s ≡ slot_entry p t.job n o r s
    unfolding slot_entry
    entry_stays n o r s here has of =
        ap (λ (x : Option Entry). in_case (slot_field p n o.fields s) x (λ f. Some (field_entry r f))) (stay n o r s here has of)

    records_stay : (n : ℕ) (k : Key) → object_of_records k ≡ Some n → row_in q u k ≡ row_in p t k
    records_stay n k e = by (object_numbered t n) refl
      where
        by : (x : Option model.Object) → object_numbered t n ≡ x → row_in q u k ≡ row_in p t k
        by None gone = let idle = no_records t n sound gone in none q u n idle k e ∙ sym (none p t n idle k e)
        by (Some o) here =
            kept p q t u n o o (λ r. r) (λ r. refl) here here (sym (map-id t.records))
            (λ r has of. kept_alike r (slot_entry q job n o r) (slot_entry p t.job n o r) (λ s. entry_stays n o r s here has of)) k e

    pub rows_stay : (k : Key) → is_job_key k ≡ false → row_in q u k ≡ row_in p t k
    unfolding row_in
    rows_stay (Job org) e = absurd cc
    rows_stay (Data org n id) e = records_stay n (Data org n id) refl
    rows_stay (Index org n slot key id) e = records_stay n (Index org n slot key id) refl
    rows_stay (Unique org n slot key) e = records_stay n (Unique org n slot key) refl
    rows_stay (Relation org n slot target id) e = records_stay n (Relation org n slot target id) refl
    rows_stay Version e = refl
    rows_stay (Org org) e = refl
    rows_stay (Object org n) e = refl
    rows_stay (Field org n i) e = refl
    rows_stay (User org id) e = refl
    rows_stay (Role org id) e = refl
    rows_stay (Group org id) e = refl
    rows_stay (Validation org n name) e = refl
    rows_stay (Sharing org name) e = refl
    rows_stay (Owner org n owner id) e = refl
    rows_stay (Share org id to) e = refl
    rows_stay (Grant org to n id cause) e = refl

-- ---- one change after another on the same field

module _ (p q : OrgPlan) (j k : model.Job) (n : ℕ) (o : model.Object) (r : Record)
    (same : (f : model.Field) → j.object ≡ n → job_entry q k r f ≡ job_entry p j r f) where
  entry_by : (x : Option model.Field) → j.object ≡ n → option_and_then (job_entry q k r) x ≡ option_and_then (job_entry p j r) x
  entry_by None e = refl
  entry_by (Some f) e = same f e

  abbrev its : OrgPlan → model.Job → Option Entry
  its plan change = option_and_then (job_entry plan change r) (slice_get o.fields j.field)

  pub entries_same : (s : ℕ) → cond (eqb j.object n && eqb p.other s) (its q k) None ≡ cond (eqb j.object n && eqb p.other s) (its p j) None
  entries_same s =
      pick (eqb j.object n) (λ b. eqb j.object n ≡ b → cond (b && eqb p.other s) (its q k) None ≡ cond (b && eqb p.other s) (its p j) None)
      (λ _ here. ap (λ (x : Option Entry). cond (eqb p.other s) x None) (entry_by (slice_get o.fields j.field) (eqb-true j.object n here)))
      (λ _ _. refl)
      refl

-- ---- called off, and failed: what was copied is left

type_stopped : (q : OrgPlan) (k : model.Job) (x : Outcome) → (x ≡ outcome.Switched → ⊥) → slot_type q k phase.Clear x ≡ k.to
type_stopped q k outcome.Open h = refl
type_stopped q k outcome.Switched h = absurd (h refl)
type_stopped q k outcome.Failed h = refl
type_stopped q k outcome.Cancelled h = refl

pub stopped : (p : OrgPlan) (t : Tenant) (j : model.Job) (x : Outcome) (failed : Option (List ℕ)) → IsSound t → t.job ≡ Some j
    → j.phase ≡ phase.Copy → (x ≡ outcome.Switched → ⊥)
    → (k : Key) → is_job_key k ≡ false
    → row_in (stopped_plan p t j) (record t { job = Some (record (to_clear x j) { failed = failed }) }) k ≡ row_in p t k
stopped p t j x failed sound is copy ended k e =
    rows_stay p p.other (stopped_plan p t j).left t (Some after) sound
    (λ n o r s here has of.
    subst (λ (job : Option model.Job). other_entry (stopped_plan p t j) (Some after) n o r s ≡ other_entry p job n o r s) (sym is)
    (entries_same p (stopped_plan p t j) j after n o r (λ f its. same r f has (subst (λ (m : ℕ). is_of m r ≡ true) (sym its) of)) s))
    k e
  where
    plan : OrgPlan
    plan = stopped_plan p t j

    after : model.Job
    after = record (to_clear x j) { failed = failed }

    left_is : (r : Record) → Has t.records r → is_of j.object r ≡ true → (stopped_plan p t j).left r.id ≡ job_value p j phase.Copy r
    left_is r has of = rw (found_itself t.records r sound.records.rise has, of) refl

    same : (r : Record) (f : model.Field) → Has t.records r → is_of j.object r ≡ true
        → job_entry plan after r f ≡ job_entry p j r f
    same r f has of =
        ap (λ (kind : FieldType). option_map (entry_of f kind) (plan.left r.id)) (type_stopped plan after x ended)
        ∙ ap (option_map (entry_of f j.to)) (left_is r has of)
        ∙ subst (λ (ph : Phase). copied ≡ option_map (entry_of f (slot_type p j ph j.outcome)) (job_value p j ph r)) (sym copy) refl
      where
        copied : Option Entry
        copied = option_map (entry_of f j.to) (job_value p j phase.Copy r)

-- ---- done: nothing is left

pub finished : (p : OrgPlan) (t : Tenant) (j : model.Job) → IsSound t → t.job ≡ Some j → j.phase ≡ phase.Clear → next_hundred t j ≡ []
    → (k : Key) → is_job_key k ≡ false → row_in p (record t { job = Some (record j { phase = phase.Done }) }) k ≡ row_in p t k
finished p t j sound is clear empty k e =
    rows_stay p p.other p.left t (Some after) sound
    (λ n o r s here has of. subst (λ (job : Option model.Job). other_entry p (Some after) n o r s ≡ other_entry p job n o r s) (sym is)
    (entries_same p p j after n o r (λ f its. same r f has (subst (λ (m : ℕ). is_of m r ≡ true) (sym its) of)) s))
    k e
  where
    after : model.Job
    after = record j { phase = phase.Done }

    reached : (r : Record) → Has t.records r → is_of j.object r ≡ true → is_past j.cursor r.id ≡ false
    reached r has of =
        pick (is_past j.cursor r.id) (λ c. is_past j.cursor r.id ≡ c → c ≡ false)
        (λ _ past.
        absurd
        (nothing (filter_has (λ r. is_past j.cursor r.id) (records_of t j.object) r (filter_has (is_of j.object) t.records r has of) past)))
        (λ _ _. refl)
        refl
      where
        nothing : Has (filter (λ r. is_past j.cursor r.id) (records_of t j.object)) r → ⊥
        nothing there =
            subst (λ (xs : List Record). Has xs r) (take_none (filter (λ r. is_past j.cursor r.id) (records_of t j.object)) empty) there

    none_left : (r : Record) → Has t.records r → is_of j.object r ≡ true → job_value p j phase.Clear r ≡ None
    none_left r has of = rw (reached r has of) refl

    same : (r : Record) (f : model.Field) → Has t.records r → is_of j.object r ≡ true → job_entry p after r f ≡ job_entry p j r f
    same r f has of =
        sym
        (ap (option_map (entry_of f (type_there p j))) (subst (λ (ph : Phase). job_value p j ph r ≡ None) (sym clear) (none_left r has of)))

-- ---- begun: nothing is in its slot yet

nothing_yet : (p : OrgPlan) (n i : ℕ) (to : FieldType) (m : ℕ) (o : model.Object) (r : Record) (s : ℕ)
    → other_entry p (Some (new_job n i to)) m o r s ≡ None
nothing_yet p n i to m o r s =
    pick (eqb n m && eqb p.other s) (λ b. cond b (option_and_then (job_entry p (new_job n i to) r) (slice_get o.fields i)) None ≡ None)
    (λ _. by (slice_get o.fields i))
    (λ _. refl)
  where
    by : (x : Option model.Field) → option_and_then (job_entry p (new_job n i to) r) x ≡ None
    by None = refl
    by (Some f) = refl

nothing_more : (p : OrgPlan) (job : Option model.Job) (m : ℕ) (o : model.Object) (r : Record) (s : ℕ)
    → ((j : model.Job) → job ≡ Some j → j.phase ≡ phase.Done) → other_entry p job m o r s ≡ None
nothing_more p None m o r s done = refl
nothing_more p (Some j) m o r s done =
    pick (eqb j.object m && eqb p.other s) (λ b. cond b (option_and_then (job_entry p j r) (slice_get o.fields j.field)) None ≡ None)
    (λ _. by (slice_get o.fields j.field))
    (λ _. refl)
  where
    by : (x : Option model.Field) → option_and_then (job_entry p j r) x ≡ None
    by None = refl
    by (Some f) =
        ap (option_map (entry_of f (type_there p j)))
        (ap (λ (ph : Phase). job_value p j ph r) (done j refl))

pub begun : (p : OrgPlan) (t : Tenant) (n i s : ℕ) (to : FieldType) → IsSound t → ((j : model.Job) → t.job ≡ Some j → j.phase ≡ phase.Done)
    → (k : Key) → is_job_key k ≡ false → row_in (record p { other = s }) (record t { job = Some (new_job n i to) }) k ≡ row_in p t k
begun p t n i s to sound done k e =
    rows_stay p s p.left t (Some (new_job n i to)) sound
    (λ m o r x here has of. nothing_yet (record p { other = s }) n i to m o r x ∙ sym (nothing_more p t.job m o r x done)) k e
