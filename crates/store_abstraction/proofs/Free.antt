-- Free slots: there is one, and nothing is in it.
use Rattle.std.proofs.Common.{◌≡◌, ℕ, zero, suc, ◌+◌, ◌<◌, ◌≤◌, Bool, true, false, not, ◌&&◌, ◌||◌, cond, eqb, IsTrue, List, [], ◌∷◌, map, length, Option, Some, None, refl, sym, ap, ◌∙◌, subst, arith}
use Rattle.std.specs.Prelude.{filter, if◌then◌else◌, is_none, slice_get}
use Rattle.std.specs.List.{enumerate_from, find, list_any}
use Rattle.std.specs.Option.{option_and_then}
use Rattle.std.proofs.lemmas.Bool.{eqb-true, not-true as not_true}
use Rattle.base_lemmas.proofs.Bools.{and_first as and_left, and_second as and_right, or_first_false as or_left, or_second_false as or_right, by_answer as pick}
use Rattle.base_lemmas.proofs.Lists.{length-map_by as mapped_length}
use Rattle.model.specs.declared.record.Record.{Record}
use Rattle.model.specs.Retyping.{job_is_done}
use Rattle.model.specs.Tenant.{Field, Job, Object, Tenant}
use Rattle.store_abstraction.specs.Entries.{job_entry, job_value, other_entry, slot_entry, slot_field}
use Rattle.store_abstraction.specs.Plan.{OrgPlan, slot_count}
use Rattle.model.specs.Cases.{in_case}
use Rattle.store_abstraction.specs.Layouts.{job_place, layout_of, place_of}
use Rattle.store_abstraction.specs.Records.{has_free, is_free, is_other}
use Rattle.base_value.specs.declared.job.Phase.{Phase}
use Rattle.base_value.specs.declared.job.Phase.TheVariants as phase

-- ---- a number below another that isn't in a short list

abbrev has_number : ℕ → List ℕ → Bool
has_number s xs = list_any (λ x. eqb x s) xs

abbrev without : ℕ → List ℕ → List ℕ
without n xs = filter (λ x. not (eqb x n)) xs

without_le : (n : ℕ) (xs : List ℕ) → length (without n xs) ≤ length xs
without_le n [] = omega arith
without_le n (x ∷ xs) =
    pick (eqb x n) (λ b. length (cond (not b) (x ∷ without n xs) (without n xs)) ≤ suc (length xs))
    (λ _. omega (arith, without_le n xs))
    (λ _. omega (arith, without_le n xs))

without_lt : (n : ℕ) (xs : List ℕ) → has_number n xs ≡ true → length (without n xs) < length xs
without_lt n [] e = absurd cc
without_lt n (x ∷ xs) e =
    pick (eqb x n) (λ b. (b || has_number n xs) ≡ true → length (cond (not b) (x ∷ without n xs) (without n xs)) < suc (length xs))
    (λ _ _. omega (arith, without_le n xs))
    (λ _ there. omega (arith, without_lt n xs there))
    e

not_without : (n s : ℕ) (xs : List ℕ) → eqb n s ≡ false → has_number s (without n xs) ≡ false → has_number s xs ≡ false
not_without n s [] apart e = refl
not_without n s (x ∷ xs) apart e =
    pick (eqb x n) (λ b. has_number s (cond (not b) (x ∷ without n xs) (without n xs)) ≡ false → (eqb x s || has_number s xs) ≡ false)
    (λ is none. rw (subst (λ (y : ℕ). eqb y s ≡ false) (sym (eqb-true x n is)) apart) (not_without n s xs apart none))
    (λ _ none. rw (or_left (eqb x s) (has_number s (without n xs)) none) (not_without n s xs apart (or_right (eqb x s) (has_number s (without n xs)) none)))
    e

less_differs : (n s : ℕ) → s < n → eqb n s ≡ false
less_differs n s h = pick (eqb n s) (λ b. b ≡ false) (λ e. absurd (differ (eqb-true n s e))) (λ e. refl)
  where
    differ : n ≡ s → ⊥
    differ e = omega (arith, e, h)

missing : (n : ℕ) (xs : List ℕ) → length xs < n → (s : ℕ) × (s < n) × (has_number s xs ≡ false)
missing zero xs h = absurd (omega (arith, h))
missing (suc n) xs h = by (λ k. missing n (without n xs) k) (has_number n xs) refl
  where
    by : (length (without n xs) < n → (s : ℕ) × (s < n) × (has_number s (without n xs) ≡ false)) → (b : Bool) → has_number n xs ≡ b → (s : ℕ) × (s < suc n) × (has_number s xs ≡ false)
    by rest false e = (n, omega arith, e)
    by rest true e =
        let (s, below, gone) = rest (omega (arith, h, without_lt n xs e)) in
        (s, omega (arith, below), not_without n s xs (less_differs n s below) gone)

-- ---- a free slot

length-enumerate : {X : Type 0} (xs : List X) (n : ℕ) → length (enumerate_from n xs) ≡ length xs
length-enumerate [] n = refl
length-enumerate (x ∷ xs) n = ap suc (length-enumerate xs (n + 1))

none_named : {X : Type 0} (g : X → ℕ) (s : ℕ) (xs : List X) → has_number s (map g xs) ≡ false → find (λ x. eqb (g x) s) xs ≡ None
none_named g s [] e = refl
none_named g s (x ∷ xs) e = rw (or_left (eqb (g x) s) (has_number s (map g xs)) e) (none_named g s xs (or_right (eqb (g x) s) (has_number s (map g xs)) e))

not_other : (p : OrgPlan) (job : Option Job) (n s : ℕ) → eqb p.other s ≡ false → is_other p job n s ≡ false
not_other p None n s e = refl
not_other p (Some j) n s e = rw e (ands (not (job_is_done j.phase)) (eqb j.object n))
  where
    ands : (a b : Bool) → (a && (b && false)) ≡ false
    ands false b = refl
    ands true false = refl
    ands true true = refl

-- where an object has few fields a slot is free
pub free_slot : (p : OrgPlan) (job : Option Job) (n : ℕ) (o : Object) → length o.fields ≤ 40 → (s : ℕ) × (s < slot_count) × IsTrue (is_free p job n o s)
free_slot p job n o few =
    let slots : List ℕ = map (λ (f : ℕ × Field). p.slot n f.0) (enumerate_from 0 o.fields) in
    let size : length slots ≡ length o.fields = mapped_length (λ (f : ℕ × Field). p.slot n f.0) (enumerate_from 0 o.fields) ∙ length-enumerate o.fields 0 in
    let (s, below, none) = missing slot_count (p.other ∷ slots) (omega (arith, size, few)) in
    (s, below, rw (none_named (λ (f : ℕ × Field). p.slot n f.0) s (enumerate_from 0 o.fields) (or_right (eqb p.other s) (has_number s slots) none), not_other p job n s (or_left (eqb p.other s) (has_number s slots) none)) refl)

-- ---- nothing is in it

is_missing : {X : Type 0} (x : Option X) → is_none x ≡ true → x ≡ None
is_missing None e = refl
is_missing (Some x) e = absurd cc

-- no field has a free slot
pub free_field : (p : OrgPlan) (job : Option Job) (n : ℕ) (o : Object) (s : ℕ) → IsTrue (is_free p job n o s) → slot_field p n o.fields s ≡ None
free_field p job n o s e = is_missing (slot_field p n o.fields s) (and_left (is_none (slot_field p n o.fields s)) (not (is_other p job n s)) e)

done_empty : (p : OrgPlan) (j : Job) (r : Record) (f : Phase) → job_is_done f ≡ true → job_value p j f r ≡ None
done_empty p j r phase.Copy e = absurd cc
done_empty p j r phase.Clear e = absurd cc
done_empty p j r phase.Done e = refl

idle_job : (p : OrgPlan) (j : Job) (r : Record) (x : Option Field) → job_value p j j.phase r ≡ None → option_and_then (job_entry p j r) x ≡ None
idle_job p j r None e = refl
idle_job p j r (Some f) e = rw e refl

-- and no change puts anything there
pub free_other : (p : OrgPlan) (job : Option Job) (n : ℕ) (o : Object) (r : Record) (s : ℕ) → is_other p job n s ≡ false → other_entry p job n o r s ≡ None
free_other p None n o r s e = refl
free_other p (Some j) n o r s e =
    pick (eqb j.object n && eqb p.other s) (λ b. (not (job_is_done j.phase) && b) ≡ false → cond b (option_and_then (job_entry p j r) (slice_get o.fields j.field)) None ≡ None)
    (λ _ idle. idle_job p j r (slice_get o.fields j.field) (done_empty p j r j.phase (is_done (job_is_done j.phase) idle)))
    (λ _ _. refl)
    e
  where
    is_done : (b : Bool) → (not b && true) ≡ false → b ≡ true
    is_done true e = refl
    is_done false e = absurd cc

pub free_entry : (p : OrgPlan) (job : Option Job) (n : ℕ) (o : Object) (r : Record) (s : ℕ) → IsTrue (is_free p job n o s) → slot_entry p job n o r s ≡ None
unfolding slot_entry
free_entry p job n o r s e =
    rw (free_field p job n o s e)
    (free_other p job n o r s (not_true (is_other p job n s) (and_right (is_none (slot_field p n o.fields s)) (not (is_other p job n s)) e)))

-- ---- the same by a layout

fields_seen : (p : OrgPlan) (n s : ℕ) (xs : List (ℕ × Field)) → not (list_any (λ f. eqb f.slot s) (map (place_of p n) xs)) ≡ is_none (find (λ (f : ℕ × Field). eqb (p.slot n f.0) s) xs)
fields_seen p n s [] = refl
fields_seen p n s (x ∷ xs) =
    pick (eqb (p.slot n x.0) s) (λ b. not (b || list_any (λ f. eqb f.slot s) (map (place_of p n) xs)) ≡ is_none (cond b (Some x) (find (λ (f : ℕ × Field). eqb (p.slot n f.0) s) xs)))
    (λ _. refl)
    (λ _. fields_seen p n s xs)

job_seen : (p : OrgPlan) (n s : ℕ) (job : Option Job) → in_case (option_and_then (λ (j : Job). if eqb j.object n then Some (job_place p j) else None) job) false (λ j. not (job_is_done j.phase) && eqb j.twin s) ≡ is_other p job n s
job_seen p n s None = refl
job_seen p n s (Some j) =
    pick (eqb j.object n) (λ b. in_case (cond b (Some (job_place p j)) None) false (λ j. not (job_is_done j.phase) && eqb j.twin s) ≡ (not (job_is_done j.phase) && (b && eqb p.other s)))
    (λ _. refl)
    (λ _. none (not (job_is_done j.phase)))
  where
    none : (b : Bool) → false ≡ (b && false)
    none true = refl
    none false = refl

pub seen : (p : OrgPlan) (t : Tenant) (org n : ℕ) (o : Object) (s : ℕ) → has_free (layout_of org p t (record { number = n; object = o })) s ≡ is_free p t.job n o s
seen p t org n o s = rw (fields_seen p n s (enumerate_from 0 o.fields), job_seen p n s t.job) refl
