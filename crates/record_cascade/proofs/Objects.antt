-- An object's first Master field, in the model and in its layout, and the layouts of all objects.
use Rattle.std.proofs.Common.{◌≡◌, ℕ, zero, suc, ◌+◌, ◌<◌, Bool, true, false, ◌&&◌, cond, eqb, List, [], ◌∷◌, ◌++◌, map, Option, Some, None, refl, sym, ap, subst, ◌∙◌, inl, inr, arith, ne_eqb as apart}
use Rattle.std.specs.Prelude.{◌==◌, ◌⊎◌, slice_get}
use Rattle.std.specs.List.{enumerate_from, find, flat_map}
use Rattle.std.specs.Option.{option_map}
use Rattle.base_lemmas.proofs.Lists.{find-append_later as find_left, find-append_sooner as find_right}
use Rattle.base_lemmas.proofs.Numbers.{eqb-self as eqb_same}
use Rattle.base_lemmas.proofs.Bools.{by_answer as pick}
use Rattle.std.proofs.lemmas.Option.{same_Some as some_is}
use Rattle.base_value.specs.declared.value.FieldType.{FieldType}
use Rattle.base_value.specs.declared.value.FieldType.TheVariants as type
use Rattle.formula.specs.Meaning.{value_at}
use Rattle.model.specs.declared.record.Record.{Record}
use Rattle.model.specs.Cases.{in_case}
use Rattle.model.specs.Deletes.{has_id, refers_to_one_of}
use Rattle.model.specs.Fields.{is_master, ref_of}
use Rattle.model.specs.Membership.{Has}
use Rattle.model.specs.Objects.{Numbered, numbered, object_number}
use Rattle.model.specs.Relationships.{Reference, master_of_object, reference_at, references_of, target_of}
use Rattle.model.specs.Tenant.{Field, Object, Tenant}
use Rattle.store_abstraction.specs.declared.layout.Layout.{Layout}
use Rattle.store_abstraction.specs.Layouts.{IsLayout, layout_of, own_layout, own_layouts, place_of}
use Rattle.store_abstraction.specs.Plan.{OrgPlan}
use Rattle.record_cascade.specs.inner.Masters.{AreItsLayouts, master_from, target_at}
use Rattle.record_cascade.proofs.Among.{has_append}

-- objects with their numbers, where the first has this one
abbrev from : ℕ → List Object → List Numbered
from k os = map (λ (o : ℕ × Object). record { number = o.0; object = o.1 }) (enumerate_from k os)

-- ---- an object's first Master field

abbrev test : ℕ → Reference → Bool
test n f = (f.object == n) && is_master f.field.kind

-- a type refers to an object, or isn't a Master
kinds : (k : FieldType) → ((target : ℕ) × (target_of k ≡ Some target)) ⊎ ((target_of k ≡ None) × (is_master k ≡ false))
kinds (type.Master o) = inl (o, refl)
kinds (type.Lookup o d) = inl (o, refl)
kinds type.Checkbox = inr (refl, refl)
kinds type.Day = inr (refl, refl)
kinds type.Moment = inr (refl, refl)
kinds (type.Text m) = inr (refl, refl)
kinds (type.Number d e) = inr (refl, refl)
kinds (type.Picklist vs) = inr (refl, refl)

module _ (n : ℕ) where
  none_of : (m k : ℕ) (fs : List Field) → eqb m n ≡ false → find (test n) (flat_map (reference_at m) (enumerate_from k fs)) ≡ None
  none_of m k [] e = refl
  none_of m k (f ∷ fs) e = by (kinds f.kind) (none_of m (k + 1) fs e)
    where
      by : ((target : ℕ) × (target_of f.kind ≡ Some target)) ⊎ ((target_of f.kind ≡ None) × (is_master f.kind ≡ false))
          → find (test n) (flat_map (reference_at m) (enumerate_from (k + 1) fs)) ≡ None
          → find (test n) (reference_at m (k, f) ++ flat_map (reference_at m) (enumerate_from (k + 1) fs)) ≡ None
      by (inl (target, is)) rest = rw (is, e) rest
      by (inr (is, other)) rest = rw is rest

  none_past : (k : ℕ) (os : List Object) → n < k → find (test n) (flat_map references_of (from k os)) ≡ None
  none_past k [] lt = refl
  none_past k (o ∷ os) lt =
      find_left (test n) (references_of (record { number = k; object = o })) (flat_map references_of (from (k + 1) os)) (none_of k 1 o.fields (apart k n (λ e. omega (arith, lt, e))))
      ∙ none_past (k + 1) os (omega (arith, lt))

  of_one : (k i : ℕ) (os : List Object) (o : Object) → k + i ≡ n → slice_get os i ≡ Some o
      → find (test n) (flat_map references_of (from k os)) ≡ find (test n) (references_of (record { number = n; object = o }))
  of_one k i [] o e at = absurd cc
  of_one k zero (x ∷ os) o e at =
      let same : k ≡ n = omega (arith, e) in
      find_right (test n) (references_of (record { number = k; object = x })) (flat_map references_of (from (k + 1) os)) (none_past (k + 1) os (omega (arith, e)))
      ∙ ap (λ (m : ℕ). find (test n) (references_of (record { number = m; object = x }))) same
      ∙ ap (λ (y : Object). find (test n) (references_of (record { number = n; object = y }))) (some_is x o at)
  of_one k (suc i) (x ∷ os) o e at =
      find_left (test n) (references_of (record { number = k; object = x })) (flat_map references_of (from (k + 1) os)) (none_of k 1 x.fields (apart k n (λ s. omega (arith, s, e))))
      ∙ of_one (k + 1) i os o (omega (arith, e)) at

  -- the field's position follows its number
  placed : (q : OrgPlan) (k j : ℕ) (fs : List Field) → option_map (λ (f : Reference). f.position) (find (test n) (flat_map (reference_at n) (enumerate_from (k + 1) fs))) ≡ option_map (λ m. m + 1) (master_from k (map (place_of q n) (enumerate_from j fs)))
  placed q k j [] = refl
  placed q k j (f ∷ fs) = by (kinds f.kind) (placed q (k + 1) (j + 1) fs)
    where
      by : ((target : ℕ) × (target_of f.kind ≡ Some target)) ⊎ ((target_of f.kind ≡ None) × (is_master f.kind ≡ false))
          → option_map (λ (f : Reference). f.position) (find (test n) (flat_map (reference_at n) (enumerate_from (k + 1 + 1) fs))) ≡ option_map (λ m. m + 1) (master_from (k + 1) (map (place_of q n) (enumerate_from (j + 1) fs)))
          → option_map (λ (f : Reference). f.position) (find (test n) (reference_at n (k + 1, f) ++ flat_map (reference_at n) (enumerate_from (k + 1 + 1) fs))) ≡ option_map (λ m. m + 1) (master_from k (map (place_of q n) (enumerate_from j (f ∷ fs))))
      by (inr (is, other)) rest = rw (is, other) rest
      by (inl (target, is)) rest =
          rw (is, eqb_same n)
          (pick (is_master f.kind)
          (λ b. option_map (λ (f : Reference). f.position) (cond b (Some (record { object = n; position = k + 1; field = f; target = target })) (find (test n) (flat_map (reference_at n) (enumerate_from (k + 1 + 1) fs))))
          ≡ option_map (λ m. m + 1) (option_map (λ g. g.0) (cond b (Some (k, place_of q n (j, f))) (find (λ g. is_master g.1.kind) (enumerate_from (k + 1) (map (place_of q n) (enumerate_from (j + 1) fs)))))))
          (λ _. refl)
          (λ _. rest))

masters : (k : FieldType) → is_master k ≡ true → (target : ℕ) × (target_of k ≡ Some target)
masters (type.Master o) e = (o, refl)
masters (type.Lookup o d) e = absurd cc
masters type.Checkbox e = absurd cc
masters type.Day e = absurd cc
masters type.Moment e = absurd cc
masters (type.Text m) e = absurd cc
masters (type.Number d e) h = absurd cc
masters (type.Picklist vs) e = absurd cc

module _ (q : OrgPlan) (n : ℕ) where
  -- the field that is a Master, the i-th of these, and the object to which it refers
  pub record MasterAt (k i : ℕ) (fs : List Field) : Type 0 where
    pub field : Field
    pub target : ℕ
    pub at : target_at (map (place_of q n) (enumerate_from k fs)) i ≡ Some target
    pub own : Has (flat_map (reference_at n) (enumerate_from (k + 1) fs)) (record { object = n; position = k + i + 1; field = field; target = target })

  later : (k i : ℕ) (f : Field) (fs : List Field) → MasterAt (k + 1) i fs → MasterAt k (suc i) (f ∷ fs)
  later k i f fs m =
      let same : k + 1 + i ≡ k + suc i = omega arith in
      record {
        field = m.field;
        target = m.target;
        at = m.at;
        own = has_append (reference_at n (k + 1, f)) (flat_map (reference_at n) (enumerate_from (k + 1 + 1) fs)) (record { object = n; position = k + suc i + 1; field = m.field; target = m.target })
            (inr (subst (λ (p : ℕ). Has (flat_map (reference_at n) (enumerate_from (k + 1 + 1) fs)) (record { object = n; position = p + 1; field = m.field; target = m.target })) same m.own));
      }

  here : (k : ℕ) (f : Field) (fs : List Field) → is_master f.kind ≡ true → MasterAt k 0 (f ∷ fs)
  here k f fs e =
      let (target, is) = masters f.kind e in
      let it : Reference = record { object = n; position = k + 1; field = f; target = target } in
      let same : k ≡ k + 0 = omega arith in
      record {
        field = f;
        target = target;
        at = is;
        own = subst (λ (p : ℕ). Has (flat_map (reference_at n) (enumerate_from (k + 1) (f ∷ fs))) (record { object = n; position = p + 1; field = f; target = target })) same
            (has_append (reference_at n (k + 1, f)) (flat_map (reference_at n) (enumerate_from (k + 1 + 1) fs)) it
            (inl (subst (λ (m : Option ℕ). Has (in_case m [] (λ target. record { object = n; position = k + 1; field = f; target = target } ∷ [])) it) (sym is) (inl refl))));
      }

  masters_from : (k m : ℕ) (fs : List Field) → master_from k (map (place_of q n) (enumerate_from k fs)) ≡ Some m → (i : ℕ) × (k + i ≡ m) × MasterAt k i fs
  masters_from k m [] e = absurd cc
  masters_from k m (f ∷ fs) e = by (is_master f.kind) refl e (masters_from (k + 1) m fs)
    where
      by : (b : Bool) → is_master f.kind ≡ b
          → option_map (λ g. g.0) (cond b (Some (k, place_of q n (k, f))) (find (λ g. is_master g.1.kind) (enumerate_from (k + 1) (map (place_of q n) (enumerate_from (k + 1) fs))))) ≡ Some m
          → (master_from (k + 1) (map (place_of q n) (enumerate_from (k + 1) fs)) ≡ Some m → (i : ℕ) × (k + 1 + i ≡ m) × MasterAt (k + 1) i fs)
          → (i : ℕ) × (k + i ≡ m) × MasterAt k i (f ∷ fs)
      by true is e more = let same : k ≡ m = cc in let zero_more : k + 0 ≡ m = omega (arith, same) in (0, zero_more, here k f fs is)
      by false is e more = let (i, at, found) = more e in let same : k + suc i ≡ m = omega (arith, at) in (suc i, same, later k i f fs found)

  -- an object's first Master field
  pub record IsMaster (m : ℕ) (fs : List Field) : Type 0 where
    pub field : Field
    pub target : ℕ
    pub at : target_at (map (place_of q n) (enumerate_from 0 fs)) m ≡ Some target
    pub own : Has (flat_map (reference_at n) (enumerate_from 1 fs)) (record { object = n; position = m + 1; field = field; target = target })

  pub first_master : (m : ℕ) (fs : List Field) → master_from 0 (map (place_of q n) (enumerate_from 0 fs)) ≡ Some m → IsMaster m fs
  first_master m fs e =
      let (i, at, found) = masters_from 0 m fs e in
      let same : 0 + i ≡ m = at in
      let is : i ≡ m = omega (arith, at) in
      record {
        field = found.field;
        target = found.target;
        at = subst (λ (j : ℕ). target_at (map (place_of q n) (enumerate_from 0 fs)) j ≡ Some found.target) is found.at;
        own = subst (λ (j : ℕ). Has (flat_map (reference_at n) (enumerate_from 1 fs)) (record { object = n; position = j + 1; field = found.field; target = found.target })) same found.own;
      }

-- what the model says of a record's master, by the layout of its object
module _ (org : ℕ) (q : OrgPlan) (t : Tenant) (rs : List Record) where
  abbrev pub named : Record → ℕ → Bool
  named x p = in_case (ref_of (value_at x.values p)) false (has_id rs)

  abbrev pub is_detail : Record → Bool
  is_detail r = in_case (master_of_object t.objects (object_number r.id)) false (λ f. refers_to_one_of rs f r)

  pub detail_is : (x : Record) (n : ℕ) (o : Object) → object_number x.id ≡ n → slice_get t.objects n ≡ Some o → is_detail x ≡ in_case (master_from 0 (layout_of org q t (record { number = n; object = o })).fields) false (λ k. named x (k + 1))
  detail_is x n o at there =
      ap (λ (m : ℕ). in_case (master_of_object t.objects m) false (λ f. refers_to_one_of rs f x)) at
      ∙ ap (λ (f : Option Reference). in_case f false (λ f. refers_to_one_of rs f x)) (of_one n 0 n t.objects o (omega arith) there)
      ∙ by_position (find (test n) (references_of (record { number = n; object = o })))
      ∙ ap (λ (p : Option ℕ). in_case p false (named x)) (placed n q 0 0 o.fields)
      ∙ sym (by_number (master_from 0 (layout_of org q t (record { number = n; object = o })).fields))
    where
      by_position : (f : Option Reference) → in_case f false (λ f. refers_to_one_of rs f x) ≡ in_case (option_map (λ (f : Reference). f.position) f) false (named x)
      by_position None = refl
      by_position (Some f) = refl

      by_number : (k : Option ℕ) → in_case k false (λ k. named x (k + 1)) ≡ in_case (option_map (λ m. m + 1) k) false (named x)
      by_number None = refl
      by_number (Some k) = refl

-- ---- layouts

module _ (org : ℕ) (q : OrgPlan) (t : Tenant) where
  abbrev made : Numbered → Layout
  made o = layout_of org q t o

  own_is : (n : ℕ) (o : Object) → slice_get t.objects n ≡ Some o → IsLayout q t (made (record { number = n; object = o }))
  unfolding own_layout
  own_is n o e = rw e refl

  each_layout : (k : ℕ) (os : List Object) → ((i : ℕ) (o : Object) → slice_get os i ≡ Some o → slice_get t.objects (k + i) ≡ Some o)
      → AreItsLayouts org q t (map made (from k os))
  each_layout k [] h = tt
  each_layout k (o ∷ os) h =
      let here : slice_get t.objects k ≡ Some o = subst (λ (m : ℕ). slice_get t.objects m ≡ Some o) (omega arith) (h 0 o refl) in
      ((refl, own_is k o here), each_layout (k + 1) os (λ i x e. subst (λ (m : ℕ). slice_get t.objects m ≡ Some x) (omega arith) (h (suc i) x e)))

  pub all_is : own_layouts org q (Some t) ≡ map made (numbered t.objects)
  unfolding own_layouts
  all_is = refl

  pub layouts_are : (ls : List Layout) → own_layouts org q (Some t) ≡ ls → AreItsLayouts org q t ls
  layouts_are ls e = subst (AreItsLayouts org q t) (sym all_is ∙ e) (each_layout 0 t.objects (λ i o h. let same : i ≡ 0 + i = omega arith in subst (λ (m : ℕ). slice_get t.objects m ≡ Some o) same h))

  -- the layout of an object is among them, and each is that of an object
  pub has_made : (k i : ℕ) (os : List Object) (n : ℕ) (o : Object) → k + i ≡ n → slice_get os i ≡ Some o → Has (map made (from k os)) (made (record { number = n; object = o }))
  has_made k i [] n o e at = absurd cc
  has_made k zero (x ∷ os) n o e at =
      let same : k ≡ n = omega (arith, e) in
      inl (ap (λ (m : ℕ). made (record { number = m; object = o })) (sym same) ∙ ap (λ (y : Object). made (record { number = k; object = y })) (sym (some_is x o at)))
  has_made k (suc i) (x ∷ os) n o e at = inr (has_made (k + 1) i os n o (omega (arith, e)) at)

  pub made_has : (k : ℕ) (os : List Object) (l : Layout) → Has (map made (from k os)) l
      → (i : ℕ) × (o : Object) × (slice_get os i ≡ Some o) × (l ≡ made (record { number = k + i; object = o }))
  made_has k [] l h = absurd h
  made_has k (x ∷ os) l (inl e) = let same : k ≡ k + 0 = omega arith in (0, x, refl, e ∙ ap (λ (m : ℕ). made (record { number = m; object = x })) same)
  made_has k (x ∷ os) l (inr h) =
      let (i, o, at, e) = made_has (k + 1) os l h in
      let same : k + 1 + i ≡ k + suc i = omega arith in
      (suc i, o, at, e ∙ ap (λ (m : ℕ). made (record { number = m; object = o })) same)
