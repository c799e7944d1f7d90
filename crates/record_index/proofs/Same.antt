-- What edits leave as it was: what is in the slots of the records that aren't touched, and the rows of all but content.
use Rattle.std.proofs.Common.{◌≡◌, ℕ, Bool, true, false, ◌&&◌, cond, eqb, List, Option, Some, None, refl, sym, ap, ap₂, subst}
use Rattle.std.specs.Prelude.{if◌then◌else◌, slice_get}
use Rattle.std.specs.List.{range_with_len}
use Rattle.std.specs.Option.{option_and_then, option_map}
use Rattle.base_lemmas.proofs.Lists.{map-same as map_same}
use Rattle.base_lemmas.proofs.Bools.{by_answer as pick}
use Rattle.store_rows.specs.Forms.{row_bytes}
use Rattle.store_rows.specs.Keys.{Key, Version, Org, Object, Field, Job, User, Role, Group, Validation, Sharing, Data, Index, Unique, Relation, Owner, Share, Grant}
use Rattle.store_rows.specs.Rows.{job_form}
use Rattle.model.specs.declared.record.Record.{Record}
use Rattle.model.specs.Cases.{in_case}
use Rattle.model.specs.Jobs.{is_past}
use Rattle.model.specs.Objects.{is_of, object_numbered, record_at}
use Rattle.model.specs.Tenant as model
use Rattle.model.specs.Tenant.{Tenant}
use Rattle.record_index.specs.Changed.{data_row, kept_entry}
use Rattle.store_abstraction.specs.Entries.{Entry, entry_text, field_entry, job_entry, job_value, other_entry, slot_entry, slot_field, slots_of}
use Rattle.store_abstraction.specs.Metadata.{job_of}
use Rattle.store_abstraction.specs.Plan.{OrgPlan, slot_count, slot_type}
use Rattle.store_abstraction.specs.Stands.{Kept, kept_at, kept_in, row_in, row_where}
use Rattle.record_index.proofs.Records.{named}
use Rattle.record_index.specs.diff.Touched.{IsAlike, IsTouched, SameKept, has, with_content, with_left}
use Rattle.base_value.specs.declared.job.Outcome.{Outcome}
use Rattle.base_value.specs.declared.job.Outcome.TheVariants as outcome
use Rattle.base_value.specs.declared.job.Phase.{Phase}
use Rattle.base_value.specs.declared.job.Phase.TheVariants as phase
use Rattle.base_value.specs.declared.value.Value.{Value}

-- ---- another thing left

module _ (p : OrgPlan) (left : List ℕ → Option Value) where
  -- the type there is the same
  pub type_same : (j : model.Job) (ph : Phase) (out : Outcome) → slot_type (with_left left p) j ph out ≡ slot_type p j ph out
  type_same j phase.Copy out = refl
  type_same j phase.Done out = refl
  type_same j phase.Clear outcome.Open = refl
  type_same j phase.Clear outcome.Switched = refl
  type_same j phase.Clear outcome.Failed = refl
  type_same j phase.Clear outcome.Cancelled = refl

  left_same : (j : model.Job) (ph : Phase) (y : Record) → left y.id ≡ p.left y.id → job_value (with_left left p) j ph y ≡ job_value p j ph y
  left_same j phase.Copy y e = refl
  left_same j phase.Clear y e = ap (λ (v : Option Value). cond (is_past j.cursor y.id) v None) e
  left_same j phase.Done y e = refl

  field_same : (j : model.Job) (y : Record) → left y.id ≡ p.left y.id → (f : Option model.Field)
      → option_and_then (job_entry (with_left left p) j y) f ≡ option_and_then (job_entry p j y) f
  field_same j y e None = refl
  field_same j y e (Some f) =
      ap₂ (λ k v. option_map {U = Entry} (λ x. record { kind = k; value = x; indexed = f.indexed; unique = f.unique }) v)
      (type_same j j.phase j.outcome) (left_same j j.phase y e)

  other_same : (job : Option model.Job) (n : ℕ) (o : model.Object) (y : Record) (s : ℕ) → left y.id ≡ p.left y.id
      → other_entry (with_left left p) job n o y s ≡ other_entry p job n o y s
  other_same None n o y s e = refl
  other_same (Some j) n o y s e = ap (λ x. cond (eqb j.object n && eqb p.other s) x None) (field_same j y e (slice_get o.fields j.field))

  entry_same : (job : Option model.Job) (n : ℕ) (o : model.Object) (y : Record) (s : ℕ) → left y.id ≡ p.left y.id
      → slot_entry (with_left left p) job n o y s ≡ slot_entry p job n o y s
  unfolding slot_entry
  entry_same job n o y s e = ap (λ x. in_case (slot_field p n o.fields s) x (λ f. Some (field_entry y f))) (other_same job n o y s e)

-- ---- two records, or none, that are kept alike

pub entries_same : (a b : Option Kept) (s : ℕ) → SameKept a b → kept_entry a s ≡ kept_entry b s
entries_same None None s h = refl
entries_same None (Some l) s h = absurd h
entries_same (Some k) None s h = absurd h
entries_same (Some k) (Some l) s h = h.1 s

slots_same : (e f : ℕ → Option Entry) → ((s : ℕ) → e s ≡ f s) → slots_of e ≡ slots_of f
unfolding slots_of
slots_same e f h = map_same (λ s. entry_text (e s)) (λ s. entry_text (f s)) (λ s. ap entry_text (h s)) (range_with_len 0 slot_count)

pub data_same : (org n : ℕ) (a b : Option Kept) → SameKept a b → data_row org n a ≡ data_row org n b
data_same org n None None h = refl
data_same org n None (Some l) h = absurd h
data_same org n (Some k) None h = absurd h
data_same org n (Some k) (Some l) h = rw (h.0, slots_same k.entries l.entries h.1) refl

pub where_same : (is : Option Entry → Bool) (s : ℕ) (a b : Option Kept) → SameKept a b → row_where is s a ≡ row_where is s b
where_same is s None None h = refl
where_same is s None (Some l) h = absurd h
where_same is s (Some k) None h = absurd h
where_same is s (Some k) (Some l) h = rw (h.1 s) refl

-- ---- other keys

-- the key isn't of a record, of a value, or of what is counted or shared
abbrev pub is_steady : Key → Bool
is_steady (Field org n place) = true
is_steady (Job org) = true
is_steady (User org i) = true
is_steady (Role org i) = true
is_steady (Group org i) = true
is_steady (Validation org n name) = true
is_steady (Sharing org name) = true
is_steady (Owner org n i j) = true
is_steady (Grant org to n i c) = true
is_steady _ = false

-- ---- records that aren't touched

module _ (p : OrgPlan) (left : List ℕ → Option Value) (t : Tenant) (counter : ℕ) (records : List Record) (shares : List model.Share) where
  abbrev q : OrgPlan
  q = with_left left p

  abbrev u : Tenant
  u = with_content counter records shares t

  kept_same : (n : ℕ) (i : List ℕ) → record_at u i ≡ record_at t i → left i ≡ p.left i → SameKept (kept_at q u n i) (kept_at p t n i)
  unfolding kept_at
  kept_same n i same e =
      subst (λ (z : Option Record). SameKept (option_and_then (λ (y : Record). if is_of n y then option_map (λ o. kept_in q u n o y) (object_numbered t n) else None) z)
      (option_and_then (λ (y : Record). if is_of n y then option_map (λ o. kept_in p t n o y) (object_numbered t n) else None) (record_at t i)))
      (sym same) (by (record_at t i) refl)
    where
      in_object : (y : Record) → left y.id ≡ p.left y.id → (x : Option model.Object) → SameKept (option_map (λ o. kept_in q u n o y) x) (option_map (λ o. kept_in p t n o y) x)
      in_object y f None = tt
      in_object y f (Some o) = (refl, λ s. entry_same p left t.job n o y s f)

      by : (z : Option Record) → record_at t i ≡ z
          → SameKept (option_and_then (λ (y : Record). if is_of n y then option_map (λ o. kept_in q u n o y) (object_numbered t n) else None) z)
          (option_and_then (λ (y : Record). if is_of n y then option_map (λ o. kept_in p t n o y) (object_numbered t n) else None) z)
      by None at = tt
      by (Some y) at =
          let f = subst (λ (x : List ℕ). left x ≡ p.left x) (sym (named t.records i y at).1) e in
          pick (is_of n y) (λ b. SameKept (cond b (option_map (λ o. kept_in q u n o y) (object_numbered t n)) None) (cond b (option_map (λ o. kept_in p t n o y) (object_numbered t n)) None))
          (λ _. in_object y f (object_numbered t n))
          (λ _. tt)

  -- the row of a key that isn't of a record, of a value, or of what is counted or shared
  steady_row : (k : Key) → is_steady k ≡ true → row_in q u k ≡ row_in p t k
  unfolding row_in
  steady_row Version h = absurd cc
  steady_row (Org a) h = absurd cc
  steady_row (Object a m) h = absurd cc
  steady_row (Field a m f) h = refl
  steady_row (Job a) h = by t.job
    where
      by : (j : Option model.Job) → option_map (λ j. row_bytes job_form (job_of a q j)) j ≡ option_map (λ j. row_bytes job_form (job_of a p j)) j
      by None = refl
      by (Some j) = rw (type_same p left j j.phase j.outcome) refl
  steady_row (User a i) h = refl
  steady_row (Role a i) h = refl
  steady_row (Group a i) h = refl
  steady_row (Validation a m name) h = refl
  steady_row (Sharing a name) h = refl
  steady_row (Data a m i) h = absurd cc
  steady_row (Index a m s key i) h = absurd cc
  steady_row (Unique a m s key) h = absurd cc
  steady_row (Relation a m s target i) h = absurd cc
  steady_row (Owner a m i j) h = refl
  steady_row (Share a i to) h = absurd cc
  steady_row (Grant a to m i c) h = refl

module _ (p q : OrgPlan) (t u : Tenant) (ids : List (List ℕ)) (is : IsTouched p q t u ids) where
  pub objects_same : u.objects ≡ t.objects
  objects_same = ap (λ (v : Tenant). v.objects) is.content

  pub other : (n : ℕ) (i : List ℕ) → has ids i ≡ false → SameKept (kept_at q u n i) (kept_at p t n i)
  other n i h =
      subst (λ (w : OrgPlan). SameKept (kept_at w u n i) (kept_at p t n i)) (sym is.plan)
      (subst (λ (v : Tenant). SameKept (kept_at (with_left q.left p) v n i) (kept_at p t n i)) (sym is.content)
      (kept_same p q.left t u.counter u.records u.shares n i (is.records i h) (is.left i h)))

  pub steady : (k : Key) → is_steady k ≡ true → row_in q u k ≡ row_in p t k
  steady k h =
      subst (λ (w : OrgPlan). row_in w u k ≡ row_in p t k) (sym is.plan)
      (subst (λ (v : Tenant). row_in (with_left q.left p) v k ≡ row_in p t k) (sym is.content)
      (steady_row p q.left t u.counter u.records u.shares k h))

  pub alike : IsAlike p q t u ids
  alike = record { objects = objects_same; others = other }
