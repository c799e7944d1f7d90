-- What a record keeps, by the layout of its object, is what the definition of an update says.
use Rattle.std.proofs.Common.{◌≡◌, ◌∙◌, ℕ, suc, zero, ◌+◌, Bool, true, false, not, ◌&&◌, cond, eqb, List, [], ◌∷◌, ◌++◌, map, find, is_none, Option, Some, None, refl, sym, ap, subst, arith}
use Rattle.std.specs.Prelude.{Ok, slice_get}
use Rattle.std.specs.List.{enumerate_from, flat_map}
use Rattle.std.specs.Option.{option_and_then}
use Rattle.std.proofs.lemmas.Bool.{eqb-true}
use Rattle.base_lemmas.proofs.Lists.{find-append_later as found_later}
use Rattle.base_lemmas.proofs.Numbers.{eqb-self as eqb_same}
use Rattle.base_lemmas.proofs.Bools.{by_answer as pick}
use Rattle.std.proofs.lemmas.Option.{same_Some as some_is}
use Rattle.record_read.proofs.Standing.{IsOf, layout_is}
use Rattle.formula.specs.Meaning.{value_at}
use Rattle.store_kv.specs.Tables.{Tables}
use Rattle.model.specs.Cases.{in_case}
use Rattle.model.specs.Fields.{is_master}
use Rattle.model.specs.Objects.{Numbered, object_numbered}
use Rattle.model.specs.Relationships.{Reference, master_of_object, reference_at, references_of}
use Rattle.model.specs.Rules.{Rule, first_refusal, refuse_if}
use Rattle.model.specs.Tenant.{Field, Job, Object, Tenant}
use Rattle.model.specs.Updates.{is_copied, master_changed, retype_conflict}
use Rattle.model.specs.declared.record.Record.{Record}
use Rattle.model.specs.declared.refusal.Refusal.TheVariants as refusal
use Rattle.record_save.specs.inner.Staying.{conflict_in, master_moved, staying_rules}
use Rattle.schema_rules.specs.Objects.{field_of_place, numbered_in}
use Rattle.store_abstraction.specs.Layouts.{FindsOf, IsLayout, job_place, layout_of, place_of}
use Rattle.store_abstraction.specs.Plan.{OrgPlan, slot_type}
use Rattle.store_abstraction.specs.declared.layout.FieldPlace.{FieldPlace}
use Rattle.store_abstraction.specs.declared.layout.JobPlace.{JobPlace}
use Rattle.store_abstraction.specs.declared.layout.Layout.{Layout}
use Rattle.base_value.specs.Conversion.{convert}
use Rattle.base_value.specs.Values.{same_value}
use Rattle.base_value.specs.declared.job.Outcome.{Outcome}
use Rattle.base_value.specs.declared.job.Phase.{Phase}
use Rattle.base_value.specs.declared.job.Phase.TheVariants as phase
use Rattle.base_value.specs.declared.value.FieldType.{FieldType}
use Rattle.base_value.specs.declared.value.FieldType.TheVariants as type

-- ---- what is found among references

found_first : {A : Type 0} (p : A → Bool) (xs ys : List A) (x : A) → find p xs ≡ Some x → find p (xs ++ ys) ≡ Some x
found_first p [] ys x e = absurd cc
found_first p (z ∷ xs) ys x e =
    pick (p z) (λ b. cond b (Some z) (find p xs) ≡ Some x → cond b (Some z) (find p (xs ++ ys)) ≡ Some x) (λ _ e. e) (λ _ e. found_first p xs ys x e) e

module _ (n : ℕ) where
  abbrev pub masters : Reference → Bool
  masters f = eqb f.object n && is_master f.field.kind

  -- the fields of another object refer to no master of this one's
  none_of : (m : ℕ) → eqb m n ≡ false → (k : ℕ) (fs : List Field) → find masters (flat_map (reference_at m) (enumerate_from k fs)) ≡ None
  none_of m other k [] = refl
  none_of m other k (f ∷ fs) = by f.kind (none_of m other (k + 1) fs)
    where
      by : (kind : FieldType) → find masters (flat_map (reference_at m) (enumerate_from (k + 1) fs)) ≡ None
          → find masters (reference_at m (k, record f { kind = kind }) ++ flat_map (reference_at m) (enumerate_from (k + 1) fs)) ≡ None
      by (type.Lookup o d) rest = rw other rest
      by (type.Master o) rest = rw other rest
      by (type.Text x) rest = rest
      by (type.Number d x) rest = rest
      by type.Checkbox rest = rest
      by type.Day rest = rest
      by type.Moment rest = rest
      by (type.Picklist vs) rest = rest

  abbrev pub pair : ℕ × Object → Numbered
  pair o = record { number = o.0; object = o.1 }

  abbrev pub all_from : (k : ℕ) → List Object → List Reference
  all_from k os = flat_map references_of (map pair (enumerate_from k os))

  apart : (k i : ℕ) → n + (i + 1) ≡ k → eqb k n ≡ false
  apart k i e = pick (eqb k n) (λ b. b ≡ false) (λ h. let same = eqb-true k n h in absurd (omega (arith, same, e))) (λ h. refl)

  -- those of the objects behind neither
  none_behind : (k i : ℕ) (os : List Object) → n + (i + 1) ≡ k → find masters (all_from k os) ≡ None
  none_behind k i [] e = refl
  none_behind k i (o ∷ os) e =
      found_later masters (flat_map (reference_at k) (enumerate_from 1 o.fields)) (all_from (k + 1) os) (none_of k (apart k i e) 1 o.fields)
      ∙ none_behind (k + 1) (i + 1) os (omega (arith, e))

  -- so the master is among the object's own
  pub among_own : (k i : ℕ) (os : List Object) (o : Object) → k + i ≡ n → slice_get os i ≡ Some o → find masters (all_from k os) ≡ find masters (flat_map (reference_at n) (enumerate_from 1 o.fields))
  among_own k i [] o e there = absurd cc
  among_own k zero (x ∷ os) o e there =
      let same : k ≡ n = omega (arith, e) in
      subst (λ (y : Object). find masters (all_from k (x ∷ os)) ≡ find masters (flat_map (reference_at n) (enumerate_from 1 y.fields))) (some_is x o there)
      (subst (λ (m : ℕ). find masters (all_from k (x ∷ os)) ≡ find masters (flat_map (reference_at m) (enumerate_from 1 x.fields))) same
      (by (find masters (flat_map (reference_at k) (enumerate_from 1 x.fields))) refl (none_behind (k + 1) 0 os (omega (arith, e)))))
    where
      by : (found : Option Reference) → find masters (flat_map (reference_at k) (enumerate_from 1 x.fields)) ≡ found → find masters (all_from (k + 1) os) ≡ None
          → find masters (flat_map (reference_at k) (enumerate_from 1 x.fields) ++ all_from (k + 1) os) ≡ find masters (flat_map (reference_at k) (enumerate_from 1 x.fields))
      by None is none = found_later masters (flat_map (reference_at k) (enumerate_from 1 x.fields)) (all_from (k + 1) os) is ∙ none ∙ sym is
      by (Some f) is none = found_first masters (flat_map (reference_at k) (enumerate_from 1 x.fields)) (all_from (k + 1) os) f is ∙ sym is
  among_own k (suc i) (x ∷ os) o e there =
      found_later masters (flat_map (reference_at k) (enumerate_from 1 x.fields)) (all_from (k + 1) os) (none_of k (before k i e) 1 x.fields)
      ∙ among_own (k + 1) i os o (omega (arith, e)) there
    where
      before : (k i : ℕ) → k + suc i ≡ n → eqb k n ≡ false
      before k i e = pick (eqb k n) (λ b. b ≡ false) (λ h. let same = eqb-true k n h in absurd (omega (arith, same, e))) (λ h. refl)

  -- and is that of the layout
  module _ (p : OrgPlan) (on : ℕ → List ℕ → Rule) where
    abbrev by_reference : Option Reference → Rule
    by_reference f = in_case f None (λ f. on f.position f.field.name)

    abbrev by_place : Option (ℕ × FieldPlace) → Rule
    by_place f = in_case f None (λ f. on f.0 f.1.name)

    in_layout : (k j : ℕ) (fs : List Field)
        → by_reference (find masters (flat_map (reference_at n) (enumerate_from k fs))) ≡ by_place (find (λ (f : ℕ × FieldPlace). is_master f.1.kind) (enumerate_from k (map (place_of p n) (enumerate_from j fs))))
    in_layout k j [] = refl
    in_layout k j (f ∷ fs) = by f.kind (in_layout (k + 1) (j + 1) fs)
      where
        rest_at : List Reference
        rest_at = flat_map (reference_at n) (enumerate_from (k + 1) fs)

        places : List (ℕ × FieldPlace)
        places = enumerate_from (k + 1) (map (place_of p n) (enumerate_from (j + 1) fs))

        by : (kind : FieldType) → by_reference (find masters rest_at) ≡ by_place (find (λ (f : ℕ × FieldPlace). is_master f.1.kind) places)
            → by_reference (find masters (reference_at n (k, record f { kind = kind }) ++ rest_at))
            ≡ by_place (find (λ (f : ℕ × FieldPlace). is_master f.1.kind) ((k, place_of p n (j, record f { kind = kind })) ∷ places))
        by (type.Lookup o d) rest = rw (eqb_same n) rest
        by (type.Master o) rest = rw (eqb_same n) refl
        by (type.Text x) rest = rest
        by (type.Number d x) rest = rest
        by type.Checkbox rest = rest
        by type.Day rest = rest
        by type.Moment rest = rest
        by (type.Picklist vs) rest = rest

-- ---- another master

abbrev unless_same : (old new : Record) → ℕ → List ℕ → Rule
unless_same old new position name = refuse_if (not (same_value (value_at old.values position) (value_at new.values position))) (refusal.InvalidField name)

moved_is : (org : ℕ) (q : OrgPlan) (t : Tenant) (n : ℕ) (o : Object) (x : Numbered) (old new : Record) → x.number ≡ n → object_numbered t n ≡ Some o
    → master_changed t x old new ≡ master_moved (layout_of org q t (record { number = n; object = o })) old new
moved_is org q t n o x old new is there =
    ap (λ (m : ℕ). in_case (master_of_object t.objects m) None (λ f. unless_same old new f.position f.field.name)) is
    ∙ ap (λ (f : Option Reference). in_case f None (λ f. unless_same old new f.position f.field.name)) (among_own n 0 n t.objects o (omega arith) there)
    ∙ in_layout n q (unless_same old new) 1 0 o.fields

-- ---- a value that doesn't convert

place_at : (p : OrgPlan) (n k i : ℕ) (fs : List Field) (on : List ℕ → Rule)
    → in_case (slice_get (map field_of_place (map (place_of p n) (enumerate_from k fs))) i) None (λ f. on f.name) ≡ in_case (slice_get (map (place_of p n) (enumerate_from k fs)) i) None (λ f. on f.name)
place_at p n k i [] on = refl
place_at p n k zero (f ∷ fs) on = refl
place_at p n k (suc i) (f ∷ fs) on = place_at p n (k + 1) i fs on

copied_so : (q : OrgPlan) (j : Job) (ph : Phase) (out : Outcome) (new : Record)
    → (is_copied ph j.cursor new.id && is_none (convert j.to (value_at new.values (suc j.field)))) ≡ (is_copied ph j.cursor new.id && is_none (convert (slot_type q j ph out) (value_at new.values (suc j.field))))
copied_so q j phase.Copy out new = refl
copied_so q j phase.Clear out new = refl
copied_so q j phase.Done out new = refl

nothing : {A : Type 0} (x : Option A) → ◌≡◌ {A = Rule} (in_case x None (λ y. None)) None
nothing None = refl
nothing (Some y) = refl

-- a field that refers to a master, and another value of it
pub moved_so : (l : Layout) (old new : Record) (position : ℕ) (f : FieldPlace) → Some (position, f) ≡ find (λ (f : ℕ × FieldPlace). is_master f.1.kind) (enumerate_from 1 l.fields)
    → same_value (value_at old.values position) (value_at new.values position) ≡ false → Some (refusal.InvalidField f.name) ≡ master_moved l old new
moved_so l old new position f found other =
    ap (λ (b : Bool). refuse_if (not b) (refusal.InvalidField f.name)) (sym other)
    ∙ ap (λ (x : Option (ℕ × FieldPlace)). in_case x None (λ f. unless_same old new f.0 f.1.name)) found

conflict_is : (org : ℕ) (q : OrgPlan) (t : Tenant) (n : ℕ) (o : Object) (new : Record)
    → retype_conflict t (numbered_in (layout_of org q t (record { number = n; object = o }))) new ≡ conflict_in (layout_of org q t (record { number = n; object = o })) new
conflict_is org q t n o new = by t.job
  where
    fields_in : List Field
    fields_in = map field_of_place (map (place_of q n) (enumerate_from 0 o.fields))

    places : List FieldPlace
    places = map (place_of q n) (enumerate_from 0 o.fields)

    on_job : Option JobPlace → Rule
    on_job job = in_case job None (λ j. in_case (slice_get places j.field) None (λ f.
        refuse_if (is_copied j.phase j.cursor new.id && is_none (convert j.kind (value_at new.values (suc j.field)))) (refusal.RetypeConflict f.name)))

    by_object : (j : Job) (b : Bool)
        → in_case (slice_get fields_in j.field) None (λ f. refuse_if (b && (is_copied j.phase j.cursor new.id && is_none (convert j.to (value_at new.values (suc j.field))))) (refusal.RetypeConflict f.name))
        ≡ on_job (cond b (Some (job_place q j)) None)
    by_object j false = nothing (slice_get fields_in j.field)
    by_object j true =
        place_at q n 0 j.field o.fields (λ name. refuse_if (is_copied j.phase j.cursor new.id && is_none (convert j.to (value_at new.values (suc j.field)))) (refusal.RetypeConflict name))
        ∙ ap (λ (b : Bool). in_case (slice_get places j.field) None (λ f. refuse_if b (refusal.RetypeConflict f.name))) (copied_so q j j.phase j.outcome new)

    by : (job : Option Job)
        → in_case job None (λ j. in_case (slice_get fields_in j.field) None (λ f. refuse_if (eqb j.object n && (is_copied j.phase j.cursor new.id && is_none (convert j.to (value_at new.values (suc j.field))))) (refusal.RetypeConflict f.name)))
        ≡ on_job (option_and_then (λ (j : Job). cond (eqb j.object n) (Some (job_place q j)) None) job)
    by None = refl
    by (Some j) = by_object j (eqb j.object n)

-- ---- both, by the layout of the object in the tenant

pub staying_is : (q : OrgPlan) (t : Tenant) (l : Layout) (old new : Record) → IsLayout q t l
    → first_refusal (master_moved l old new ∷ conflict_in l new ∷ []) ≡ first_refusal (staying_rules l old new t)
staying_is q t l old new its =
    let one = layout_is q t l its in
    subst (λ (k : Layout). first_refusal (master_moved k old new ∷ conflict_in k new ∷ []) ≡ first_refusal (staying_rules k old new t)) one.made (same one)
  where
    same : (one : IsOf q t l) → first_refusal (master_moved (layout_of l.org q t (record { number = l.object; object = one.object })) old new ∷ conflict_in (layout_of l.org q t (record { number = l.object; object = one.object })) new ∷ [])
        ≡ first_refusal (staying_rules (layout_of l.org q t (record { number = l.object; object = one.object })) old new t)
    same one =
        let k = layout_of l.org q t (record { number = l.object; object = one.object }) in
        ap (λ (r : Rule). first_refusal (r ∷ conflict_in k new ∷ [])) (sym (moved_is l.org q t l.object one.object (numbered_in k) old new refl one.there))
        ∙ ap (λ (r : Rule). first_refusal (master_changed t (numbered_in k) old new ∷ r ∷ [])) (sym (conflict_is l.org q t l.object one.object new))

pub staying_found : (l : Layout) (old new : Record) (rule : Rule) → rule ≡ first_refusal (master_moved l old new ∷ conflict_in l new ∷ [])
    → (m : Tables) → FindsOf l (λ t. first_refusal (staying_rules l old new t)) m (Ok rule)
staying_found l old new rule is m = λ q t s its. is ∙ staying_is q t l old new its
