-- The layouts of all objects of a sound tenant can be used.
use Rattle.std.proofs.Common.{◌≡◌, ◌∙◌, ℕ, ◌+◌, ◌≤◌, Bool, true, false, ◌&&◌, eqb, List, [], ◌∷◌, length, map, Some, refl, sym, subst, arith, nat_le, le-leb as few_enough}
use Rattle.std.specs.Prelude.{◌==◌}
use Rattle.std.specs.List.{enumerate_from, list_all}
use Rattle.std.proofs.lemmas.Bool.{eqb-true, and_from as true_both}
use Rattle.std.proofs.lemmas.Bool.Decides.{nat_tests}
use Rattle.base_lemmas.proofs.Bools.{and_first as and_left, and_second as and_right}
use Rattle.base_lemmas.proofs.Numbers.{eqb-self as eqb_same}
use Rattle.record_read.specs.Decoding.{has_types}
use Rattle.model.specs.Objects.{Numbered, numbered}
use Rattle.model.specs.Sound.{IsSound}
use Rattle.model.specs.Tenant.{Object, Tenant}
use Rattle.record_target.proofs.Ready.{ConvertsThere, Typed, ready_so, usable}
use Rattle.record_target.specs.Usable.{IsReady}
use Rattle.record_index.specs.Turned.{converts}
use Rattle.store_abstraction.specs.declared.layout.Layout.{Layout}
use Rattle.store_abstraction.specs.Layouts.{layout_of, own_layouts}
use Rattle.store_abstraction.specs.Plan.{OrgPlan}
use Rattle.record_delete.specs.inner.Adding.{AreReady}
use Rattle.record_delete.specs.inner.Counts.{AreObjects}
use Rattle.record_delete.proofs.CountRows.{all_are, are_objects}

-- the test of one
abbrev is_one : ℕ → Layout → Bool
is_one org l = (l.org == org) && ((nat_le (length l.fields) 40 && has_types l) && converts l)

few_objects : (n : ℕ) → nat_le n 100 ≡ true → n ≤ 100
few_objects n h = grind (arith, nat_tests)

-- ---- what passes the test can be used

one_ready : (org : ℕ) (l : Layout) → is_one org l ≡ true → IsReady org l
one_ready org l h =
    let can = (nat_le (length l.fields) 40 && has_types l) && converts l in
    ready_so org l (eqb-true l.org org (and_left (l.org == org) can h)) (and_right (l.org == org) can h)

each_ready : (org : ℕ) (ls : List Layout) → list_all (is_one org) ls ≡ true → AreReady org ls
each_ready org [] h = tt
each_ready org (l ∷ ls) h = (one_ready org l (and_left (is_one org l) (list_all (is_one org) ls) h), each_ready org ls (and_right (is_one org l) (list_all (is_one org) ls) h))

pub all_ready : (org : ℕ) (ls : List Layout) → (nat_le (length ls) 100 && list_all (is_one org) ls) ≡ true → AreReady org ls × (length ls ≤ 100)
all_ready org ls h =
    (each_ready org ls (and_right (nat_le (length ls) 100) (list_all (is_one org) ls) h), few_objects (length ls) (and_left (nat_le (length ls) 100) (list_all (is_one org) ls) h))

-- ---- those of a sound tenant pass it

as_many : (org : ℕ) (q : OrgPlan) (t : Tenant) (k : ℕ) (os : List Object)
    → length (map (layout_of org q t) (map (λ (o : ℕ × Object). record { number = o.0; object = o.1 }) (enumerate_from k os))) ≡ length os
as_many org q t k [] = refl
as_many org q t k (o ∷ os) = let e = as_many org q t (k + 1) os in omega (arith, e)

module _ (typed : Typed) (converting : ConvertsThere) (org : ℕ) (q : OrgPlan) (t : Tenant) (sound : IsSound t) where
  each_passes : (os : List Numbered) → AreObjects t os → list_all (is_one org) (map (layout_of org q t) os) ≡ true
  each_passes [] h = refl
  each_passes (o ∷ os) h =
      let l = layout_of org q t o in
      let can = usable typed org q t o l sound h.0 refl in
      true_both (is_one org l) (list_all (is_one org) (map (layout_of org q t) os))
      (true_both (eqb org org) ((nat_le (length l.fields) 40 && has_types l) && converts l) (eqb_same org)
      (true_both (nat_le (length l.fields) 40 && has_types l) (converts l)
      (true_both (nat_le (length l.fields) 40) (has_types l) (few_enough (length l.fields) 40 can.few) can.types)
      (converting org o.number q t o.object sound h.0)))
      (each_passes os h.1)

  pub all_pass : (ls : List Layout) → own_layouts org q (Some t) ≡ ls → (nat_le (length ls) 100 && list_all (is_one org) ls) ≡ false → ⊥
  all_pass ls are h =
      let same = all_are org q t ls are in
      let few : length ls ≤ 100 = subst (λ (ls : List Layout). length ls ≤ 100) same (omega (arith, as_many org q t 0 t.objects, sound.metadata.few)) in
      let passes = subst (λ (ls : List Layout). list_all (is_one org) ls ≡ true) same (each_passes (numbered t.objects) (are_objects t)) in
      differ (sym (true_both (nat_le (length ls) 100) (list_all (is_one org) ls) (few_enough (length ls) 100 few) passes) ∙ h)
    where
      differ : ◌≡◌ {A = Bool} true false → ⊥
      differ e = cc
