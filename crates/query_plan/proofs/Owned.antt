-- The references of one object among those of all.
use Rattle.std.proofs.Common.{◌≡◌, ℕ, zero, suc, ◌+◌, ◌<◌, Bool, false, ◌&&◌, cond, eqb, List, [], ◌∷◌, ◌++◌, map, Option, Some, None, refl, sym, ap, ◌∙◌, inl, inr, arith, ne_eqb as apart}
use Rattle.std.specs.Prelude.{◌==◌, slice_get}
use Rattle.std.specs.List.{enumerate_from, find, flat_map}
use Rattle.std.specs.Option.{option_or}
use Rattle.std.proofs.lemmas.List.Folds.{find-append}
use Rattle.base_lemmas.proofs.Numbers.{eqb-self as eqb_same}
use Rattle.base_lemmas.proofs.Bools.{by_answer as pick}
use Rattle.std.proofs.lemmas.Option.{same_Some as some_is}
use Rattle.model.specs.Cases.{in_case}
use Rattle.model.specs.Fields.{same_name}
use Rattle.model.specs.Membership.{Has}
use Rattle.model.specs.Objects.{Numbered, object_numbered}
use Rattle.model.specs.Relationships.{Reference, parent_name, parent_named, reference_at, references, references_of, target_of}
use Rattle.model.specs.Tenant.{Field, Object, Tenant}

pub or_none : {X : Type 0} (o : Option X) → option_or o None ≡ o
or_none None = refl
or_none (Some x) = refl

pub found_has : {X : Type 0} (p : X → Bool) (xs : List X) (x : X) → find p xs ≡ Some x → Has xs x
found_has p [] x e = absurd cc
found_has p (y ∷ xs) x e =
    pick (p y) (λ b. cond b (Some y) (find p xs) ≡ Some x → Has (y ∷ xs) x)
    (λ _ some. inl (sym (some_is y x some)))
    (λ _ more. inr (found_has p xs x more))
    e

-- objects with their numbers, where the first has this one
abbrev pub from : ℕ → List Object → List Numbered
from k os = map (λ (o : ℕ × Object). record { number = o.0; object = o.1 }) (enumerate_from k os)

abbrev pub numbered_as : ℕ → Object → Numbered
numbered_as n o = record { number = n; object = o }

module _ (n : ℕ) (p : Reference → Bool) where
  -- one of the object's references, if it passes
  abbrev pub own : Reference → Bool
  own f = (f.object == n) && p f

  of_other : (m k : ℕ) (fs : List Field) → eqb m n ≡ false → find own (flat_map (reference_at m) (enumerate_from k fs)) ≡ None
  of_other m k [] e = refl
  of_other m k (f ∷ fs) e = by (target_of f.kind) (of_other m (k + 1) fs e)
    where
      by : (target : Option ℕ) → find own (flat_map (reference_at m) (enumerate_from (k + 1) fs)) ≡ None
          → find own (in_case target [] (λ target. record { object = m; position = k; field = f; target = target } ∷ []) ++ flat_map (reference_at m) (enumerate_from (k + 1) fs)) ≡ None
      by None rest = rest
      by (Some target) rest = rw e rest

  of_own : (k : ℕ) (fs : List Field) → find own (flat_map (reference_at n) (enumerate_from k fs)) ≡ find p (flat_map (reference_at n) (enumerate_from k fs))
  of_own k [] = refl
  of_own k (f ∷ fs) = by (target_of f.kind) (of_own (k + 1) fs)
    where
      by : (target : Option ℕ) → find own (flat_map (reference_at n) (enumerate_from (k + 1) fs)) ≡ find p (flat_map (reference_at n) (enumerate_from (k + 1) fs))
          → find own (in_case target [] (λ target. record { object = n; position = k; field = f; target = target } ∷ []) ++ flat_map (reference_at n) (enumerate_from (k + 1) fs))
          ≡ find p (in_case target [] (λ target. record { object = n; position = k; field = f; target = target } ∷ []) ++ flat_map (reference_at n) (enumerate_from (k + 1) fs))
      by None rest = rest
      by (Some target) rest =
          let it : Reference = record { object = n; position = k; field = f; target = target } in
          ap (λ (b : Bool). cond (b && p it) (Some it) (find own (flat_map (reference_at n) (enumerate_from (k + 1) fs)))) (eqb_same n)
          ∙ ap (λ (o : Option Reference). cond (p it) (Some it) o) rest

  -- past the object, which isn't among these
  of_rest : (k : ℕ) (os : List Object) → n < k → find own (flat_map references_of (from k os)) ≡ None
  of_rest k [] lt = refl
  of_rest k (o ∷ os) lt =
      find-append own (references_of (numbered_as k o)) (flat_map references_of (from (k + 1) os))
      ∙ ap (λ (r : Option Reference). option_or r (find own (flat_map references_of (from (k + 1) os)))) (of_other k 1 o.fields (apart k n (λ e. omega (arith, lt, e))))
      ∙ of_rest (k + 1) os (omega (arith, lt))

  of_all : (k i : ℕ) (os : List Object) (o : Object) → k + i ≡ n → slice_get os i ≡ Some o → find own (flat_map references_of (from k os)) ≡ find p (references_of (numbered_as n o))
  of_all k i [] o e at = absurd cc
  of_all k zero (x ∷ os) o e at =
      let same : k ≡ n = omega (arith, e) in
      find-append own (references_of (numbered_as k x)) (flat_map references_of (from (k + 1) os))
      ∙ ap (option_or (find own (references_of (numbered_as k x)))) (of_rest (k + 1) os (omega (arith, e)))
      ∙ or_none (find own (references_of (numbered_as k x)))
      ∙ ap (λ (m : ℕ). find own (references_of (numbered_as m x))) same
      ∙ of_own 1 x.fields
      ∙ ap (λ (y : Object). find p (references_of (numbered_as n y))) (some_is x o at)
  of_all k (suc i) (x ∷ os) o e at =
      find-append own (references_of (numbered_as k x)) (flat_map references_of (from (k + 1) os))
      ∙ ap (λ (r : Option Reference). option_or r (find own (flat_map references_of (from (k + 1) os)))) (of_other k 1 x.fields (apart k n (λ s. omega (arith, s, e))))
      ∙ of_all (k + 1) i os o (omega (arith, e)) at

  -- the first of the object's references that passes
  pub found_own : (os : List Object) (o : Object) → slice_get os n ≡ Some o → find own (references os) ≡ find p (references_of (numbered_as n o))
  found_own os o at = of_all 0 n os o (omega arith) at

-- the parent relationship is the object's own
pub parent_is : (t : Tenant) (n : ℕ) (o : Object) (name : List ℕ) → object_numbered t n ≡ Some o
    → parent_named t n name ≡ find (λ f. same_name (parent_name f.field.name) name) (references_of (numbered_as n o))
unfolding parent_named
parent_is t n o name at = found_own n (λ f. same_name (parent_name f.field.name) name) t.objects o at

pub parent_has : (t : Tenant) (n : ℕ) (o : Object) (name : List ℕ) (f : Reference) → object_numbered t n ≡ Some o → parent_named t n name ≡ Some f → Has (references_of (numbered_as n o)) f
parent_has t n o name f at e = found_has (λ f. same_name (parent_name f.field.name) name) (references_of (numbered_as n o)) f (sym (parent_is t n o name at) ∙ e)
