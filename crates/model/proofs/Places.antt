-- Objects by their names and numbers, references by their objects, and records by their ids.
use Rattle.std.proofs.Common.{◌≡◌, ℕ, zero, suc, ◌+◌, Bool, true, false, cond, List, [], ◌∷◌, ◌++◌, map, Option, Some, None, refl, sym, ap, subst, ◌∙◌, arith, inl, inr, bytes_eq, slice_get}
use Rattle.std.specs.List.{enumerate_from, find, flat_map}
use Rattle.std.proofs.lemmas.Option.{same_Some as some_is}
use Rattle.model.specs.Cases.{in_case}
use Rattle.model.specs.Fields.{same_name}
use Rattle.model.specs.Membership.{Has}
use Rattle.model.specs.Objects.{Numbered, numbered, object_named}
use Rattle.model.specs.Relationships.{Reference, reference_at, references_of, target_of}
use Rattle.model.specs.Tenant.{Field, Object, Tenant}
use Rattle.model.specs.World.{having_id}
use Rattle.model.proofs.Elements.{in_either}

abbrev pub numbered_from : ℕ → List Object → List Numbered
numbered_from n os = map (λ (o : ℕ × Object). record { number = o.0; object = o.1 }) (enumerate_from n os)

found_object : (name : List ℕ) (os : List Object) (n : ℕ) (o : Numbered) → find (λ o. same_name o.object.name name) (numbered_from n os) ≡ Some o
    → (k : ℕ) × (o.number ≡ n + k) × (slice_get os k ≡ Some o.object)
found_object name [] n o e = absurd cc
found_object name (x ∷ os) n o e = by (same_name x.name name) e (found_object name os (n + 1) o)
  where
    by : (b : Bool) → cond b (Some (record { number = n; object = x })) (find (λ o. same_name o.object.name name) (numbered_from (n + 1) os)) ≡ Some o
        → (find (λ o. same_name o.object.name name) (numbered_from (n + 1) os) ≡ Some o → (k : ℕ) × (o.number ≡ n + 1 + k) × (slice_get os k ≡ Some o.object))
        → (k : ℕ) × (o.number ≡ n + k) × (slice_get (x ∷ os) k ≡ Some o.object)
    by true e more =
        let is = some_is (record { number = n; object = x }) o e in
        (0, ap (λ (z : Numbered). z.number) (sym is) ∙ omega arith, ap (λ (z : Numbered). Some z.object) is)
    by false e more = let m = more e in (suc m.0, m.1 ∙ omega arith, m.2)

-- the object that is named is the one with its number
pub named_at : (t : Tenant) (name : List ℕ) (o : Numbered) → object_named t name ≡ Some o → slice_get t.objects o.number ≡ Some o.object
unfolding object_named
named_at t name o e =
    let f = found_object name t.objects 0 o e in
    let k : o.number ≡ f.0 = f.1 ∙ omega arith in
    ap (slice_get t.objects) k ∙ f.2

object_among : (k n : ℕ) (os : List Object) (o : Object) → slice_get os n ≡ Some o → Has (numbered_from k os) (record { number = k + n; object = o })
object_among k n [] o e = absurd cc
object_among k zero (x ∷ os) o e =
    let none : k + 0 ≡ k = omega arith in
    inl (ap (λ (m : ℕ). record { number = m; object = o }) none ∙ ap (λ (y : Object). record { number = k; object = y }) (sym (some_is x o e)))
object_among k (suc n) (x ∷ os) o e =
    let same : k + 1 + n ≡ k + suc n = omega arith in
    inr (subst (λ (m : ℕ). Has (numbered_from (k + 1) os) (record { number = m; object = o })) same (object_among (k + 1) n os o e))

pub at_number : (n : ℕ) (os : List Object) (o : Object) → slice_get os n ≡ Some o → Has (numbered os) (record { number = n; object = o })
at_number n os o e =
    let none : 0 + n ≡ n = omega arith in
    subst (λ (m : ℕ). Has (numbered_from 0 os) (record { number = m; object = o })) none (object_among 0 n os o e)

-- the references of an object have its number
own_object : (n k : ℕ) (fs : List Field) (f : Reference) → Has (flat_map (reference_at n) (enumerate_from k fs)) f → f.object ≡ n
own_object n k [] f m = absurd m
own_object n k (g ∷ fs) f m = by (target_of g.kind) m (own_object n (k + 1) fs f)
  where
    by : (o : Option ℕ) → Has (in_case o [] (λ target. record { object = n; position = k; field = g; target = target } ∷ []) ++ flat_map (reference_at n) (enumerate_from (k + 1) fs)) f
        → (Has (flat_map (reference_at n) (enumerate_from (k + 1) fs)) f → f.object ≡ n) → f.object ≡ n
    by None h more = more h
    by (Some target) (inl e) more = ap (λ (z : Reference). z.object) e
    by (Some target) (inr h) more = more h

-- a reference is one of the object whose number it has
among_from : (n : ℕ) (os : List Object) (f : Reference) → Has (flat_map references_of (numbered_from n os)) f
    → (k : ℕ) × (o : Object) × (slice_get os k ≡ Some o) × Has (references_of (record { number = n + k; object = o })) f
among_from n [] f m = absurd m
among_from n (x ∷ os) f m =
    elim (in_either (references_of (record { number = n; object = x })) (flat_map references_of (numbered_from (n + 1) os)) f m) [
      | inl h ↦
          let none : n ≡ n + 0 = omega arith in
          (0, x, refl, subst (λ (k : ℕ). Has (references_of (record { number = k; object = x })) f) none h)
      | inr h ↦
          let r = among_from (n + 1) os f h in
          let same : n + 1 + r.0 ≡ n + suc r.0 = omega arith in
          (suc r.0, r.1, r.2, subst (λ (k : ℕ). Has (references_of (record { number = k; object = r.1 })) f) same r.3)
    ]

pub own_reference : (os : List Object) (n : ℕ) (o : Object) (f : Reference) → slice_get os n ≡ Some o → f.object ≡ n → Has (flat_map references_of (numbered os)) f
    → Has (references_of (record { number = n; object = o })) f
own_reference os n o f at is m =
    let r = among_from 0 os f m in
    let none : 0 + r.0 ≡ r.0 = omega arith in
    let h = subst (λ (k : ℕ). Has (references_of (record { number = k; object = r.1 })) f) none r.3 in
    let number : r.0 ≡ n = sym (own_object r.0 1 r.1.fields f h) ∙ is in
    let object : r.1 ≡ o = some_is r.1 o (sym r.2 ∙ ap (slice_get os) number ∙ at) in
    subst (λ (k : ℕ). Has (references_of (record { number = k; object = o })) f) number (subst (λ (x : Object). Has (references_of (record { number = r.0; object = x })) f) object h)

-- what an id names has it
pub with_its_id : {A : Type 0} (id : A → List ℕ) (xs : List A) (i : List ℕ) (x : A) → having_id id xs i ≡ Some x → Has xs x × (bytes_eq i (id x) ≡ true)
with_its_id id [] i x e = absurd cc
with_its_id id (y ∷ ys) i x e = by (bytes_eq i (id y)) refl e (with_its_id id ys i x)
  where
    by : (b : Bool) → bytes_eq i (id y) ≡ b → cond b (Some y) (having_id id ys i) ≡ Some x → (having_id id ys i ≡ Some x → Has ys x × (bytes_eq i (id x) ≡ true)) → Has (y ∷ ys) x × (bytes_eq i (id x) ≡ true)
    by true t w more = let same = some_is y x w in (inl (sym same), ap (λ z. bytes_eq i (id z)) (sym same) ∙ t)
    by false t w more = (inr (more w).0, (more w).1)
