-- The record that has an id, and the layout of its object among the layouts of all objects.
use Rattle.std.proofs.Common.{◌≡◌, ◌∙◌, ℕ, zero, suc, ◌+◌, cond, eqb, IsTrue, List, [], ◌∷◌, map, Option, Some, None, refl, sym, ap, subst, arith}
use Rattle.std.specs.Prelude.{is_some, slice_get}
use Rattle.std.specs.List.{enumerate_from}
use Rattle.std.specs.Option.{option_and_then, option_map}
use Rattle.base_lemmas.proofs.Numbers.{eqb-self as eqb_same}
use Rattle.std.proofs.lemmas.Option.{same_Some as some_is}
use Rattle.record_read.proofs.Lists.{of_each}
use Rattle.record_read.proofs.Standing.{found_id}
use Rattle.model.specs.declared.record.Record.{Record}
use Rattle.model.specs.Known.{known}
use Rattle.model.specs.Membership.{Has}
use Rattle.model.specs.Objects.{Numbered, is_of, object_number, object_numbered, record_at}
use Rattle.model.specs.Rights.{record_of_object}
use Rattle.model.specs.Sound.{IsSound}
use Rattle.model.specs.SoundRecords.{IsSoundRecord}
use Rattle.model.specs.Tenant.{Object, Tenant}
use Rattle.record_target.specs.Usable.{IsReady}
use Rattle.store_abstraction.specs.declared.layout.Layout.{Layout}
use Rattle.store_abstraction.specs.Layouts.{IsLayout, layout_of, own_layout, own_layouts}
use Rattle.store_abstraction.specs.Plan.{OrgPlan}
use Rattle.record_delete.specs.inner.Adding.{AreReady}

-- ---- layouts at their places

-- an object with its number
abbrev pub as_numbered : ℕ → Object → Numbered
as_numbered n o = record { number = n; object = o }

abbrev from : ℕ → List Object → List Numbered
from k os = map (λ (o : ℕ × Object). as_numbered o.0 o.1) (enumerate_from k os)

get_made : (make : Numbered → Layout) (k n : ℕ) (os : List Object) → slice_get (map make (from k os)) n ≡ option_map (λ (o : Object). make (as_numbered (k + n) o)) (slice_get os n)
get_made make k n [] = refl
get_made make k zero (o ∷ os) = let none : k ≡ k + 0 = omega arith in ap (λ (m : ℕ). Some (make (as_numbered m o))) none
get_made make k (suc n) (o ∷ os) =
    let same : k + 1 + n ≡ k + suc n = omega arith in
    get_made make (k + 1) n os ∙ ap (λ (m : ℕ). option_map (λ (x : Object). make (as_numbered m x)) (slice_get os n)) same

pub layout_at : (org : ℕ) (q : OrgPlan) (t : Tenant) (ls : List Layout) (n : ℕ) → own_layouts org q (Some t) ≡ ls
    → slice_get ls n ≡ option_map (λ (o : Object). layout_of org q t (as_numbered n o)) (object_numbered t n)
unfolding own_layouts
layout_at org q t ls n e =
    let none : 0 + n ≡ n = omega arith in
    ap (λ (x : List Layout). slice_get x n) (sym e)
    ∙ get_made (layout_of org q t) 0 n t.objects
    ∙ ap (λ (m : ℕ). option_map (λ (o : Object). layout_of org q t (as_numbered m o)) (object_numbered t n)) none

its_layout : (org : ℕ) (q : OrgPlan) (t : Tenant) (n : ℕ) (o : Object) → object_numbered t n ≡ Some o → IsLayout q t (layout_of org q t (as_numbered n o))
unfolding own_layout
its_layout org q t n o there = ap (λ (x : Option Object). option_map (layout_of org q t) (option_map (as_numbered n) x)) there

-- ---- a layout that is ready

pub ready_at : (org : ℕ) (ls : List Layout) (n : ℕ) (l : Layout) → AreReady org ls → slice_get ls n ≡ Some l → IsReady org l
ready_at org [] n l h e = absurd cc
ready_at org (x ∷ ls) zero l h e = subst (IsReady org) (some_is x l e) h.0
ready_at org (x ∷ ls) (suc n) l h e = ready_at org ls n l h.1 e

-- ---- the record with an id

pub record IsThere (t : Tenant) (i : List ℕ) (r : Record) : Type 0 where
  pub found : record_at t i ≡ Some r
  pub same : r.id ≡ i
  pub has : Has t.records r
  pub object : Object
  pub at : object_numbered t (object_number i) ≡ Some object

pub some_record : (x : Option Record) → IsTrue (is_some x) → (r : Record) × (x ≡ Some r)
some_record None h = absurd cc
some_record (Some r) h = (r, refl)

pub there : (t : Tenant) (i : List ℕ) (r : Record) → IsSound t → record_at t i ≡ Some r → IsThere t i r
there t i r sound e =
    let (same, has) = found_id t.records i r e in
    let each = of_each (IsSoundRecord (known t) t.objects) t.records r sound.records.each has in
    record {
      found = e;
      same = same;
      has = has;
      object = each.object;
      at = subst (λ (j : List ℕ). slice_get t.objects (object_number j) ≡ Some each.object) same each.there;
    }

pub of_its_object : (t : Tenant) (i : List ℕ) (r : Record) → IsThere t i r → record_of_object t (object_number i) i ≡ Some r
of_its_object t i r h =
    ap (option_and_then (λ (x : Record). cond (is_of (object_number i) x) (Some x) None)) h.found
    ∙ ap (λ b. cond b (Some r) None) (ap (λ (j : List ℕ). eqb (object_number j) (object_number i)) h.same ∙ eqb_same (object_number i))

-- ---- its layout

pub record IsLaid (org : ℕ) (q : OrgPlan) (t : Tenant) (i : List ℕ) (r : Record) (l : Layout) : Type 0 where
  pub there : IsThere t i r
  pub made : l ≡ layout_of org q t (as_numbered (object_number i) there.object)
  pub its : IsLayout q t l
  pub own : l.org ≡ org
  pub found : record_of_object t l.object i ≡ Some r

module _ (org : ℕ) (q : OrgPlan) (t : Tenant) (ls : List Layout) (are : own_layouts org q (Some t) ≡ ls) (sound : IsSound t) (i : List ℕ) (r : Record) (at : record_at t i ≡ Some r) where
  pub its : IsThere t i r
  its = there t i r sound at

  pub placed : slice_get ls (object_number i) ≡ Some (layout_of org q t (as_numbered (object_number i) its.object))
  placed = layout_at org q t ls (object_number i) are ∙ ap (option_map (λ (o : Object). layout_of org q t (as_numbered (object_number i) o))) its.at

  pub laid : (l : Layout) → slice_get ls (object_number i) ≡ Some l → IsLaid org q t i r l
  laid l e =
      let made = some_is l (layout_of org q t (as_numbered (object_number i) its.object)) (sym e ∙ placed) in
      record {
        there = its;
        made = made;
        its = subst (IsLayout q t) (sym made) (its_layout org q t (object_number i) its.object its.at);
        own = ap (λ (x : Layout). x.org) made;
        found = ap (λ (x : Layout). record_of_object t x.object i) made ∙ of_its_object t i r its;
      }

  pub unplaced : slice_get ls (object_number i) ≡ None → ⊥
  unplaced e = let clash = sym e ∙ placed in absurd cc
