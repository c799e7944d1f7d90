-- The rows that count records, with some records less, as changes.
use Rattle.std.proofs.Common.{◌≡◌, ◌≢◌, ◌∙◌, ℕ, suc, ◌+◌, ◌-◌, List, [], ◌∷◌, ◌++◌, length, map, Some, refl, sym, ap, subst, arith}
use Rattle.std.specs.Prelude.{IsErrAnd, Result, Ok, Err, slice_get}
use Rattle.std.specs.List.{enumerate_from, flat_map}
use Rattle.base_lemmas.proofs.Lists.{nil_not_cons as clash}
use Rattle.std.proofs.lemmas.Option.{same_Some as some_is}
use Rattle.store_edit.specs.Rows.{change_to}
use Rattle.store_edit.specs.Rows as rows
use Rattle.store_kv.specs.declared.keeper.Change.{Change as Spelled}
use Rattle.store_rows.specs.declared.fail.StoreFail.{StoreFail}
use Rattle.store_rows.specs.declared.fail.StoreFail.TheVariants.{Damaged}
use Rattle.store_rows.specs.declared.object.ObjectRow.{ObjectRow}
use Rattle.store_rows.specs.declared.org.OrgRow.{OrgRow}
use Rattle.store_rows.specs.Forms.{FitsForm}
use Rattle.store_rows.specs.Rows.{object_form, org_form}
use Rattle.model.specs.Objects.{Numbered, numbered, object_numbered}
use Rattle.model.specs.Tenant.{Object, Tenant}
use Rattle.store_abstraction.specs.Changes.{Change}
use Rattle.store_abstraction.specs.declared.layout.Layout.{Layout}
use Rattle.store_abstraction.specs.Layouts.{layout_of, own_layouts, own_row}
use Rattle.store_abstraction.specs.Metadata.{org_of}
use Rattle.store_abstraction.specs.Plan.{OrgPlan}
use Rattle.record_delete.specs.Deleting.{object_less}
use Rattle.record_delete.specs.inner.Adding.{Adds, AddsThese}
use Rattle.record_delete.proofs.Adding.{these_then}
use Rattle.record_delete.specs.inner.Counts.{AreObjects, object_row_less, org_less}

-- ---- the organisation's row

pub adds_org : (org gone : ℕ) (row : OrgRow) (old new : List Spelled) → FitsForm org_form (org_less org gone row)
    → new ≡ old ++ rows.spelled (change_to org_form (org_less org gone row)) ∷ [] → Adds org 1 0 old new
adds_org org gone row old new fits are = record { changes = change_to org_form (org_less org gone row) ∷ []; are = are; own = ((fits.0, refl), tt); few = omega arith; gone = omega arith }

pub these_org : (org gone : ℕ) (t : Tenant) (q : OrgPlan) (row : OrgRow) (old new : List Spelled) → Some row ≡ own_row org q (Some t) → FitsForm org_form (org_less org gone row)
    → new ≡ old ++ rows.spelled (change_to org_form (org_less org gone row)) ∷ []
    → AddsThese {X = Unit {0}} (change_to org_form (record (org_of org t) { records = length t.records - gone }) ∷ []) old new (Ok tt)
these_org org gone t q row old new is fits are =
    let same : row ≡ org_of org t = some_is row (org_of org t) is in
    (are ∙ ap (λ (row : OrgRow). old ++ rows.spelled (change_to org_form (org_less org gone row)) ∷ []) same, (fits.0, tt))

-- ---- an object's row

pub adds_object : (org n gone : ℕ) (row : ObjectRow) (old new : List Spelled) → FitsForm object_form (object_row_less org n gone row)
    → new ≡ old ++ rows.spelled (change_to object_form (object_row_less org n gone row)) ∷ [] → Adds org 1 0 old new
adds_object org n gone row old new fits are = record { changes = change_to object_form (object_row_less org n gone row) ∷ []; are = are; own = ((fits.0, refl), tt); few = omega arith; gone = omega arith }

-- ---- the objects

pub are_objects : (t : Tenant) → AreObjects t (numbered t.objects)
are_objects t = from 0 t.objects (λ i o e. subst (λ (m : ℕ). object_numbered t m ≡ Some o) (omega arith) e)
  where
    from : (k : ℕ) (os : List Object) → ((i : ℕ) (o : Object) → slice_get os i ≡ Some o → object_numbered t (k + i) ≡ Some o)
        → AreObjects t (map (λ (o : ℕ × Object). record { number = o.0; object = o.1 }) (enumerate_from k os))
    from k [] h = tt
    from k (o ∷ os) h = (
      subst (λ (m : ℕ). object_numbered t m ≡ Some o) (omega arith) (h 0 o refl),
      from (k + 1) os (λ i x e. subst (λ (m : ℕ). object_numbered t m ≡ Some x) (omega arith) (h (suc i) x e)),
    )

pub all_are : (org : ℕ) (q : OrgPlan) (t : Tenant) (ls : List Layout) → own_layouts org q (Some t) ≡ ls → map (layout_of org q t) (numbered t.objects) ≡ ls
unfolding own_layouts
all_are org q t ls e = e

-- ---- one object after another

abbrev first_of : {X : Type 0} (x : X) → List X → X
first_of x [] = x
first_of x (y ∷ ys) = y

abbrev rest_of : {X : Type 0} → List X → List X
rest_of [] = []
rest_of (x ∷ xs) = xs

-- why the work stopped at the first is why it stopped
pub stopped : {X Y : Type 0} (cs ds : List Change) (old mid : List Spelled) (r : Result X StoreFail) (e : StoreFail) (out : Result Y StoreFail)
    → AddsThese cs old mid r → r ≡ Err e → IsErrAnd out (λ y. y ≡ e) → AddsThese ds old mid out
stopped cs ds old mid r e (Ok y) h was is = absurd is
stopped cs ds old mid r e (Err f) h was is = subst (λ (g : StoreFail). g ≢ Damaged) (sym is) (subst (AddsThese cs old mid) was h)

module _ (org : ℕ) (q : OrgPlan) (t : Tenant) (ids : List (List ℕ)) (l : Layout) (ls : List Layout) where
  one : Object → List Change
  one o = object_less org t ids (record { number = l.object; object = o })

  pub objects_then : (os : List Numbered) → map (layout_of org q t) os ≡ l ∷ ls → AreObjects t os
      → (first : Result (Unit {0}) StoreFail) (second : Result (Unit {0}) StoreFail) (old mid new : List Spelled) (x : Unit {0}) → first ≡ Ok x
      → ((o : Object) → object_numbered t l.object ≡ Some o → AddsThese (object_less org t ids (record { number = l.object; object = o })) old mid first)
      → ((os : List Numbered) → map (layout_of org q t) os ≡ ls → AreObjects t os → AddsThese (flat_map (object_less org t ids) os) mid new second)
      → AddsThese (flat_map (object_less org t ids) os) old new second
  objects_then [] e all first second old mid new x was a b = absurd (clash l ls e)
  objects_then (o ∷ os) e all first second old mid new x was a b =
      let head : layout_of org q t o ≡ l = ap (first_of l) e in
      let number : o.number ≡ l.object = ap (λ (l : Layout). l.object) head in
      let is = a o.object (subst (λ (n : ℕ). object_numbered t n ≡ Some o.object) number all.0) in
      let so : AddsThese (object_less org t ids o) old mid first = subst (λ (n : ℕ). AddsThese (object_less org t ids (record { number = n; object = o.object })) old mid first) (sym number) is in
      these_then (object_less org t ids o) (flat_map (object_less org t ids) os) old mid new second (subst (AddsThese (object_less org t ids o) old mid) was so) (b os (ap rest_of e) all.1)

  pub objects_stopped : (os : List Numbered) → map (layout_of org q t) os ≡ l ∷ ls → AreObjects t os
      → (first : Result (Unit {0}) StoreFail) (e : StoreFail) (out : Result (Unit {0}) StoreFail) (old mid : List Spelled) → first ≡ Err e → IsErrAnd out (λ y. y ≡ e)
      → ((o : Object) → object_numbered t l.object ≡ Some o → AddsThese (object_less org t ids (record { number = l.object; object = o })) old mid first)
      → AddsThese (flat_map (object_less org t ids) os) old mid out
  objects_stopped [] are all first e out old mid was is a = absurd (clash l ls are)
  objects_stopped (o ∷ os) are all first e out old mid was is a =
      let number : o.number ≡ l.object = ap (λ (l : Layout). l.object) (ap (first_of l) are) in
      stopped (object_less org t ids (record { number = l.object; object = o.object })) (flat_map (object_less org t ids) (o ∷ os)) old mid first e out
      (a o.object (subst (λ (n : ℕ). object_numbered t n ≡ Some o.object) number all.0)) was is
