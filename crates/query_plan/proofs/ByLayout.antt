-- Relationships and objects are found by layouts as the model finds them.
use Rattle.std.proofs.Common.{◌≡◌, ◌↔◌, ℕ, zero, suc, ◌+◌, ◌-◌, Bool, false, ◌&&◌, ◌==◌, cond, eqb, Bor, List, [], ◌∷◌, ◌++◌, map, Option, Some, None, refl, sym, ap, subst, ◌∙◌, arith, ne_eqb as apart}
use Rattle.std.specs.Prelude.{IfSome, IsNone, slice_get}
use Rattle.std.specs.List.{enumerate_from, find, flat_map, position_from}
use Rattle.std.specs.Option.{option_copied, option_map, option_or}
use Rattle.std.proofs.lemmas.Iterator.Adapters.{position_from-zero}
use Rattle.std.proofs.lemmas.List.Folds.{find-append}
use Rattle.base_lemmas.proofs.Numbers.{eqb-self as eqb_same}
use Rattle.base_lemmas.proofs.Bools.{by_answer as pick}
use Rattle.std.proofs.lemmas.Option.{same_Some as some_is}
use Rattle.model.specs.Cases.{in_case}
use Rattle.model.specs.Fields.{same_name}
use Rattle.model.specs.Objects.{object_numbered}
use Rattle.model.specs.Relationships.{Reference, child_named, parent_name, parent_named, reference_at, references_of, target_of}
use Rattle.model.specs.Tenant.{Field, Object, Tenant}
use Rattle.store_abstraction.specs.declared.layout.Layout.{Layout}
use Rattle.store_abstraction.specs.Layouts.{IsLayout, layout_of, own_layout, own_layouts, place_of}
use Rattle.store_abstraction.specs.Plan.{OrgPlan}
use Rattle.query_plan.specs.declared.paths.children.ChildStep.{ChildStep}
use Rattle.query_plan.specs.paths.Ways.{child_step, parent_step}
use Rattle.query_plan.specs.paths.ByLayout.{child_by, child_of, is_child, parent_from}
use Rattle.query_plan.proofs.Owned.{from, numbered_as, parent_is}

-- ---- layouts

-- the object of a layout
pub record IsOf (q : OrgPlan) (t : Tenant) (l : Layout) : Type 0 where
  pub object : Object
  pub there : object_numbered t l.object ≡ Some object
  pub made : layout_of l.org q t (numbered_as l.object object) ≡ l

pub layout_is : (q : OrgPlan) (t : Tenant) (l : Layout) → IsLayout q t l → IsOf q t l
unfolding own_layout
layout_is q t l h = by (object_numbered t l.object) refl h
  where
    by : (o : Option Object) → object_numbered t l.object ≡ o → option_map (layout_of l.org q t) (option_map (numbered_as l.object) o) ≡ Some l → IsOf q t l
    by None there h = absurd cc
    by (Some o) there h = record { object = o; there = there; made = some_is (layout_of l.org q t (numbered_as l.object o)) l h }

-- the layout of the object with a number is of that number
pub record IsRead (org n : ℕ) (q : OrgPlan) (t : Tenant) (l : Layout) : Type 0 where
  pub organisation : l.org ≡ org
  pub number : l.object ≡ n
  pub layout : IsLayout q t l

pub read_is : (org n : ℕ) (q : OrgPlan) (t : Tenant) (l : Layout) → own_layout org n q (Some t) ≡ Some l → IsRead org n q t l
unfolding own_layout
read_is org n q t l h = by (object_numbered t n) refl h
  where
    by : (o : Option Object) → object_numbered t n ≡ o → option_map (layout_of org q t) (option_map (numbered_as n) o) ≡ Some l → IsRead org n q t l
    by None there g = absurd cc
    by (Some o) there g =
        let made : layout_of org q t (numbered_as n o) ≡ l = some_is (layout_of org q t (numbered_as n o)) l g in
        record {
          organisation = ap (λ (k : Layout). k.org) (sym made);
          number = ap (λ (k : Layout). k.object) (sym made);
          layout = subst (λ (k : Layout). own_layout k.org k.object q (Some t) ≡ Some k) made (ap (λ (x : Option Object). option_map (layout_of org q t) (option_map (numbered_as n) x)) there);
        }

-- it is there where the object is
pub none_is : (org n : ℕ) (q : OrgPlan) (t : Tenant) → (own_layout org n q (Some t) ≡ None) ↔ (object_numbered t n ≡ None)
unfolding own_layout
none_is org n q t = (by (object_numbered t n), ap (λ (o : Option Object). option_map (layout_of org q t) (option_map (numbered_as n) o)))
  where
    by : (o : Option Object) → option_map (layout_of org q t) (option_map (numbered_as n) o) ≡ None → o ≡ None
    by None e = refl
    by (Some o) e = absurd cc

module _ (org n : ℕ) (q : OrgPlan) (t : Tenant) where
  in_all : (k i : ℕ) (os : List Object) → k + i ≡ n
      → find (λ l. l.object == n) (map (layout_of org q t) (from k os)) ≡ option_map (layout_of org q t) (option_map (numbered_as n) (slice_get os i))
  in_all k i [] e = refl
  in_all k zero (o ∷ os) e =
      let same : k ≡ n = omega (arith, e) in
      let rest = find (λ (l : Layout). l.object == n) (map (layout_of org q t) (from (k + 1) os)) in
      ap (λ (m : ℕ). cond (eqb m n) (Some (layout_of org q t (numbered_as m o))) rest) same
      ∙ ap (λ (b : Bool). cond b (Some (layout_of org q t (numbered_as n o))) rest) (eqb_same n)
  in_all k (suc i) (o ∷ os) e =
      let rest = find (λ (l : Layout). l.object == n) (map (layout_of org q t) (from (k + 1) os)) in
      ap (λ (b : Bool). cond b (Some (layout_of org q t (numbered_as k o))) rest) (apart k n (λ s. omega (arith, s, e)))
      ∙ in_all (k + 1) i os (omega (arith, e))

  -- the one with the number is that of the object
  pub numbered_layout : (layouts : List Layout) → layouts ≡ own_layouts org q (Some t) → find (λ l. l.object == n) layouts ≡ own_layout org n q (Some t)
  unfolding own_layout own_layouts
  numbered_layout layouts e = ap (find (λ l. l.object == n)) e ∙ in_all 0 n t.objects (omega arith)

-- what is read of it, behind a reference
module _ (org n : ℕ) (q : OrgPlan) (t : Tenant) where
  pub found_is : (found : Option (Bor Layout)) → option_copied found ≡ own_layout org n q (Some t) → IfSome found (λ l. (l.now.org ≡ org) × (l.now.object ≡ n) × IsLayout q t l.now)
  found_is None e = tt
  found_is (Some l) e = let read = read_is org n q t l.now (sym e) in (read.organisation, read.number, read.layout)

  pub missing_is : (found : Option (Bor Layout)) → option_copied found ≡ own_layout org n q (Some t) → IsNone found ↔ (object_numbered t n ≡ None)
  missing_is None e = (λ _. (none_is org n q t).0 (sym e), λ _. refl)
  missing_is (Some l) e = (λ h. absurd cc, λ none. absurd (clash (e ∙ (none_is org n q t).1 none)))
    where
      clash : ◌≡◌ {A = Option Layout} (Some l.now) None → ⊥
      clash e = cc

-- ---- parents

module _ (q : OrgPlan) (n : ℕ) (name : List ℕ) where
  abbrev is_parent : Reference → Bool
  is_parent f = same_name (parent_name f.field.name) name

  parents_same : (k j : ℕ) (fs : List Field)
      → option_map parent_step (find is_parent (flat_map (reference_at n) (enumerate_from k fs))) ≡ parent_from k (map (place_of q n) (enumerate_from j fs)) name
  parents_same k j [] = refl
  parents_same k j (f ∷ fs) = by (target_of f.kind) (same_name (parent_name f.name) name) (parents_same (k + 1) (j + 1) fs)
    where
      by : (target : Option ℕ) (b : Bool)
          → option_map parent_step (find is_parent (flat_map (reference_at n) (enumerate_from (k + 1) fs))) ≡ parent_from (k + 1) (map (place_of q n) (enumerate_from (j + 1) fs)) name
          → option_map parent_step (find is_parent (in_case target [] (λ target. record { object = n; position = k; field = f; target = target } ∷ []) ++ flat_map (reference_at n) (enumerate_from (k + 1) fs)))
          ≡ option_or (in_case target None (λ target. cond (same_name (parent_name f.name) name) (Some (record { position = k; target = target })) None)) (parent_from (k + 1) (map (place_of q n) (enumerate_from (j + 1) fs)) name)
      by None b rest = rest
      by (Some target) b rest =
          pick (same_name (parent_name f.name) name)
          (λ b. option_map parent_step (cond b (Some (record { object = n; position = k; field = f; target = target })) (find is_parent (flat_map (reference_at n) (enumerate_from (k + 1) fs))))
          ≡ option_or (cond b (Some (record { position = k; target = target })) None) (parent_from (k + 1) (map (place_of q n) (enumerate_from (j + 1) fs)) name))
          (λ _. refl)
          (λ _. rest)

pub parent_by_layout : (q : OrgPlan) (t : Tenant) (l : Layout) (name : List ℕ) → IsLayout q t l → parent_from 1 l.fields name ≡ option_map parent_step (parent_named t l.object name)
parent_by_layout q t l name is =
    let it = layout_is q t l is in
    sym (ap (option_map parent_step) (parent_is t l.object it.object name it.there)
    ∙ parents_same q l.object name 1 0 it.object.fields
    ∙ ap (λ (k : Layout). parent_from 1 k.fields name) it.made)

-- ---- children

module _ (n : ℕ) (name : List ℕ) where
  abbrev is_child_of : Reference → Bool
  is_child_of f = (f.target == n) && in_case f.field.child false (same_name name)

  abbrev child_at : ℕ → ℕ → ChildStep
  child_at m i = record { object = m; field = i }

  children_same : (q : OrgPlan) (m k j : ℕ) (fs : List Field)
      → option_map child_step (find is_child_of (flat_map (reference_at m) (enumerate_from (k + 1) fs))) ≡ option_map (child_at m) (position_from (is_child n name) k (map (place_of q m) (enumerate_from j fs)))
  children_same q m k j [] = refl
  children_same q m k j (f ∷ fs) = by (target_of f.kind) (children_same q m (k + 1) (j + 1) fs)
    where
      by : (target : Option ℕ)
          → option_map child_step (find is_child_of (flat_map (reference_at m) (enumerate_from ((k + 1) + 1) fs))) ≡ option_map (child_at m) (position_from (is_child n name) (k + 1) (map (place_of q m) (enumerate_from (j + 1) fs)))
          → option_map child_step (find is_child_of (in_case target [] (λ target. record { object = m; position = k + 1; field = f; target = target } ∷ []) ++ flat_map (reference_at m) (enumerate_from ((k + 1) + 1) fs)))
          ≡ option_map (child_at m) (cond (in_case target false (λ target. (target == n) && in_case f.child false (same_name name))) (Some k) (position_from (is_child n name) (k + 1) (map (place_of q m) (enumerate_from (j + 1) fs))))
      by None rest = rest
      by (Some target) rest =
          let back : (k + 1) - 1 ≡ k = omega arith in
          pick ((target == n) && in_case f.child false (same_name name))
          (λ b. option_map child_step (cond b (Some (record { object = m; position = k + 1; field = f; target = target })) (find is_child_of (flat_map (reference_at m) (enumerate_from ((k + 1) + 1) fs))))
          ≡ option_map (child_at m) (cond b (Some k) (position_from (is_child n name) (k + 1) (map (place_of q m) (enumerate_from (j + 1) fs)))))
          (λ _. ap (λ (i : ℕ). Some (child_at m i)) back)
          (λ _. rest)

  mapped_or : (o p : Option Reference) → option_map child_step (option_or o p) ≡ option_or (option_map child_step o) (option_map child_step p)
  mapped_or None p = refl
  mapped_or (Some f) p = refl

  children_in : (org : ℕ) (q : OrgPlan) (t : Tenant) (k : ℕ) (os : List Object)
      → option_map child_step (find is_child_of (flat_map references_of (from k os))) ≡ child_of n name (map (layout_of org q t) (from k os))
  children_in org q t k [] = refl
  children_in org q t k (o ∷ os) =
      let rest = flat_map references_of (from (k + 1) os) in
      let fields = map (place_of q k) (enumerate_from 0 o.fields) in
      ap (option_map child_step) (find-append is_child_of (references_of (numbered_as k o)) rest)
      ∙ mapped_or (find is_child_of (references_of (numbered_as k o))) (find is_child_of rest)
      ∙ ap (λ (c : Option ChildStep). option_or c (option_map child_step (find is_child_of rest))) (children_same q k 0 0 o.fields)
      ∙ ap (λ (i : Option ℕ). option_or (option_map (child_at k) i) (option_map child_step (find is_child_of rest))) (sym (position_from-zero (is_child n name) fields))
      ∙ ap (option_or (child_by n name (layout_of org q t (numbered_as k o)))) (children_in org q t (k + 1) os)

pub child_by_layouts : (org : ℕ) (q : OrgPlan) (t : Tenant) (layouts : List Layout) (n : ℕ) (name : List ℕ) → layouts ≡ own_layouts org q (Some t)
    → child_of n name layouts ≡ option_map child_step (child_named t n name)
unfolding child_named own_layouts
child_by_layouts org q t layouts n name e = ap (child_of n name) e ∙ sym (children_in n name org q t 0 t.objects)
