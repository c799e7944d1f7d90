-- The relationships to an object's records are those that the layouts of all objects show.
use Rattle.std.proofs.Common.{◌≡◌, ◌∙◌, ℕ, zero, suc, ◌+◌, ◌==◌, Bool, false, cond, List, [], ◌∷◌, ◌++◌, map, filter, Option, Some, None, arith, refl, sym, ap, subst}
use Rattle.std.specs.Prelude.{IfOk, Result, slice_get}
use Rattle.std.specs.declared.alloc.AllocError.{AllocError}
use Rattle.base_lemmas.proofs.Results.{IfOk-same}
use Rattle.std.specs.List.{enumerate_from, flat_map}
use Rattle.std.proofs.lemmas.List.{map-append}
use Rattle.std.proofs.lemmas.List.Elements.{filter-append}
use Rattle.base_lemmas.proofs.Bools.{by_answer as pick}
use Rattle.base_json.specs.declared.tree.Json.{Json}
use Rattle.model.specs.Cases.{in_case}
use Rattle.model.specs.Objects.{Numbered, object_numbered}
use Rattle.model.specs.Relationships.{Reference, reference_at, references_of, target_of}
use Rattle.model.specs.Tenant.{Field, Object, Tenant}
use Rattle.model_reads.specs.DescribeJson.{child_json, references_to}
use Rattle.model_reads.specs.SettingsJson.{object_name_at}
use Rattle.store_abstraction.specs.declared.layout.FieldPlace.{FieldPlace}
use Rattle.store_abstraction.specs.declared.layout.Layout.{Layout}
use Rattle.store_abstraction.specs.Layouts.{layout_of, own_layouts, place_of}
use Rattle.store_abstraction.specs.Plan.{OrgPlan}
use Rattle.api_read.specs.inner.DescribedLayouts.{child_by, children_by, children_of, is_child}

pub children_made : (r : Result (List Json) AllocError) (n : ℕ) (l : Layout) (name : List ℕ) (fields : List FieldPlace) → name ≡ l.name → fields ≡ l.fields
    → IfOk r (λ all. all ≡ map (child_by name) (filter (is_child n) fields)) → IfOk r (λ all. all ≡ children_of n l)
children_made r n l name fields named same h =
    IfOk-same r (map (child_by name) (filter (is_child n) fields)) (children_of n l)
    (ap (λ (x : List ℕ). map (child_by x) (filter (is_child n) fields)) named ∙ ap (λ (fs : List FieldPlace). map (child_by l.name) (filter (is_child n) fs)) same)
    h

module _ (org : ℕ) (q : OrgPlan) (t : Tenant) (n : ℕ) where
  abbrev is_to : Reference → Bool
  is_to f = f.target == n

  abbrev from : ℕ → List Object → List Numbered
  from k os = map (λ (o : ℕ × Object). record { number = o.0; object = o.1 }) (enumerate_from k os)

  abbrev places : ℕ → ℕ → List Field → List FieldPlace
  places k j fs = filter (is_child n) (map (place_of q k) (enumerate_from j fs))

  abbrev behind : ℕ → ℕ → List Field → List Reference
  behind k i fs = flat_map (reference_at k) (enumerate_from i fs)

  -- of one object's fields
  fields_same : (k j i : ℕ) (fs : List Field)
      → map (child_by (object_name_at t k)) (filter (is_child n) (map (place_of q k) (enumerate_from j fs))) ≡ map (child_json t) (filter is_to (flat_map (reference_at k) (enumerate_from i fs)))
  fields_same k j i [] = refl
  fields_same k j i (f ∷ fs) = by (target_of f.kind) (fields_same k (j + 1) (i + 1) fs)
    where
      by : (target : Option ℕ) → map (child_by (object_name_at t k)) (places k (j + 1) fs) ≡ map (child_json t) (filter is_to (behind k (i + 1) fs))
          → map (child_by (object_name_at t k)) (cond (in_case target false (λ target. target == n)) (place_of q k (j, f) ∷ places k (j + 1) fs) (places k (j + 1) fs))
          ≡ map (child_json t) (filter is_to (in_case target [] (λ target. record { object = k; position = i; field = f; target = target } ∷ []) ++ behind k (i + 1) fs))
      by None rest = rest
      by (Some target) rest =
          pick (target == n)
          (λ b. map (child_by (object_name_at t k)) (cond b (place_of q k (j, f) ∷ places k (j + 1) fs) (places k (j + 1) fs))
          ≡ map (child_json t) (cond b (record { object = k; position = i; field = f; target = target } ∷ filter is_to (behind k (i + 1) fs)) (filter is_to (behind k (i + 1) fs))))
          (λ _. ap (λ (xs : List Json). child_by (object_name_at t k) (place_of q k (j, f)) ∷ xs) rest)
          (λ _. rest)

  -- these are the tenant's objects from a number on
  abbrev AreFrom : ℕ → List Object → Type 0
  AreFrom k os = (i : ℕ) (o : Object) → slice_get os i ≡ Some o → object_numbered t (k + i) ≡ Some o

  first_name : (k : ℕ) (o : Object) (os : List Object) → AreFrom k (o ∷ os) → o.name ≡ object_name_at t k
  first_name k o os h =
      let there = subst (λ (n : ℕ). object_numbered t n ≡ Some o) (omega arith) (h 0 o refl) in
      sym (ap (λ (x : Option Object). in_case x [] (λ o. o.name)) there)

  rest_from : (k : ℕ) (o : Object) (os : List Object) → AreFrom k (o ∷ os) → AreFrom (k + 1) os
  rest_from k o os h i x there = subst (λ (n : ℕ). object_numbered t n ≡ Some x) (omega arith) (h (suc i) x there)

  all_from : (k : ℕ) (os : List Object) → AreFrom k os
      → flat_map (children_of n) (map (layout_of org q t) (from k os)) ≡ map (child_json t) (filter is_to (flat_map references_of (from k os)))
  all_from k [] h = refl
  all_from k (o ∷ os) h =
      let first = references_of (record { number = k; object = o }) in
      let behind = flat_map references_of (from (k + 1) os) in
      let rest = flat_map (children_of n) (map (layout_of org q t) (from (k + 1) os)) in
      ap (λ (name : List ℕ). map (child_by name) (filter (is_child n) (map (place_of q k) (enumerate_from 0 o.fields))) ++ rest) (first_name k o os h)
      ∙ ap (λ (xs : List Json). xs ++ rest) (fields_same k 0 1 o.fields)
      ∙ ap (λ (xs : List Json). map (child_json t) (filter is_to first) ++ xs) (all_from (k + 1) os (rest_from k o os h))
      ∙ sym (map-append (child_json t) (filter is_to first) (filter is_to behind))
      ∙ sym (ap (map (child_json t)) (filter-append is_to first behind))

  pub children_are : (layouts : List Layout) → layouts ≡ own_layouts org q (Some t) → children_by n layouts ≡ map (child_json t) (references_to t n)
  unfolding own_layouts
  children_are layouts is =
      ap (children_by n) is
      ∙ all_from 0 t.objects (λ i o there. subst (λ (n : ℕ). object_numbered t n ≡ Some o) (omega arith) there)
