-- The columns that cells name, by the layouts of an organisation's objects.
use Rattle.std.proofs.Common.{◌≡◌, ◌∙◌, ℕ, zero, suc, ◌+◌, ◌-◌, ◌^◌, ◌<◌, ◌≤◌, Bool, cond, List, [], ◌∷◌, ◌++◌, map, length, Option, Some, None, Result, Ok, Err, refl, sym, ap, subst, arith}
use Rattle.std.specs.List.{enumerate_from, find, flat_map}
use Rattle.std.specs.Option.{option_and_then, option_map}
use Rattle.std.specs.Prelude.{OkIff, slice_get}
use Rattle.std.specs.Result.{result_ok}
use Rattle.std.proofs.lemmas.Option.{slice_get_within as get_below, same_Some as some_is}
use Rattle.base_lemmas.proofs.Bools.{by_answer as pick}
use Rattle.model.specs.Cases.{in_case}
use Rattle.model.specs.Fields.{same_name}
use Rattle.model.specs.Objects.{object_numbered}
use Rattle.model.specs.Relationships.{Reference, parent_name, parent_named, reference_at, target_of}
use Rattle.model.specs.Sound.{IsSound}
use Rattle.model.specs.Tenant.{Field, Object, Tenant}
use Rattle.model.specs.Upserts.{unique_named}
use Rattle.store_abstraction.specs.Layouts.{IsLayout, place_of}
use Rattle.store_abstraction.specs.Plan.{OrgPlan}
use Rattle.store_abstraction.specs.declared.layout.FieldPlace.{FieldPlace}
use Rattle.store_abstraction.specs.declared.layout.Layout.{Layout}
use Rattle.store_abstraction.proofs.MetadataRows.{sound_object}
use Rattle.schema_rules.specs.Objects.{object_of_layout}
use Rattle.record_input.specs.Given.{NamesUnique}
use Rattle.record_input.proofs.Spelled.{unique_alike}
use Rattle.query_plan.specs.declared.paths.parents.ParentStep.{ParentStep}
use Rattle.query_plan.specs.paths.Ways.{parent_step}
use Rattle.query_plan.proofs.ByLayout.{layout_is}
use Rattle.query_plan.proofs.Owned.{numbered_as, parent_is}
use Rattle.cmd_load_plan.specs.declared.plan.LoadColumn.{LoadColumn}
use Rattle.cmd_load_plan.specs.Columns.{found_by, parent_column}
use Rattle.cmd_load_plan.specs.inner.Headings.{column_at, unique_place}

-- ---- the place of a unique field

as_many : (q : OrgPlan) (n k : ℕ) (fs : List Field) → length (map (place_of q n) (enumerate_from k fs)) ≡ length fs
as_many q n k [] = refl
as_many q n k (f ∷ fs) = ap suc (as_many q n (k + 1) fs)

few_fields : (q : OrgPlan) (t : Tenant) (l : Layout) → IsSound t → IsLayout q t l → length l.fields ≤ 40
few_fields q t l sound is =
    let one = layout_is q t l is in
    let few : length one.object.fields ≤ 40 = (sound_object t l.object one.object sound one.there).few_fields in
    let same : length l.fields ≡ length one.object.fields = ap (λ (k : Layout). length k.fields) (sym one.made) ∙ as_many q l.object 0 one.object.fields in
    omega (arith, few, same)

-- from 0, where positions are from 1
abbrev from_zero : Option (ℕ × Field) → Option ℕ
from_zero = option_map (λ (u : ℕ × Field). u.0 - 1)

module _ (q : OrgPlan) (t : Tenant) (n : ℕ) (field : List ℕ) where
  pub place_missing : object_numbered t n ≡ None → None ≡ unique_place t n field
  place_missing e = ap (λ (o : Option Object). option_and_then (λ (target : Object). from_zero (unique_named target field)) o) (sym e)

  module _ (l : Layout) (number : l.object ≡ n) (is : IsLayout q t l) where
    place_by_layout : unique_place t n field ≡ from_zero (unique_named (object_of_layout l) field)
    place_by_layout =
        let one = layout_is q t l is in
        let there : object_numbered t n ≡ Some one.object = subst (λ (m : ℕ). object_numbered t m ≡ Some one.object) number one.there in
        ap (λ (o : Option Object). option_and_then (λ (target : Object). from_zero (unique_named target field)) o) there
        ∙ ap from_zero (unique_alike l.org q t (numbered_as l.object one.object) field ∙ ap (λ (k : Layout). unique_named (object_of_layout k) field) one.made)

    pub place_of_none : NamesUnique l field None → None ≡ unique_place t n field
    place_of_none none = sym (place_by_layout ∙ ap from_zero none)

    pub place_is : (m : ℕ) → NamesUnique l field (Some m) → Some m ≡ unique_place t n field
    place_is m named =
        let less : suc m - 1 ≡ m = omega arith in
        sym (place_by_layout ∙ ap from_zero named.2 ∙ ap (λ (k : ℕ). Some k) less)

    pub place_fits : (m : ℕ) → IsSound t → NamesUnique l field (Some m) → m < 40
    place_fits m sound named = omega (arith, get_below l.fields m named.0 named.1, few_fields q t l sound is)

-- ---- the field of a reference

-- a reference among those of numbered fields is the one with its position
record IsFieldAt (k : ℕ) (fs : List Field) (f : Reference) : Type 0 where
  number : ℕ
  position : k + number ≡ f.position
  there : slice_get fs number ≡ Some f.field

module _ (n : ℕ) (passes : Reference → Bool) where
  field_at : (k : ℕ) (fs : List Field) (f : Reference) → find passes (flat_map (reference_at n) (enumerate_from k fs)) ≡ Some f → IsFieldAt k fs f
  field_at k [] f e = absurd cc
  field_at k (g ∷ fs) f e = by (target_of g.kind) e (field_at (k + 1) fs f)
    where
      later : IsFieldAt (k + 1) fs f → IsFieldAt k (g ∷ fs) f
      later it = record { number = suc it.number; position = omega (arith, it.position); there = it.there }

      here : (it : Reference) → k ≡ it.position → g ≡ it.field → it ≡ f → IsFieldAt k (g ∷ fs) f
      here it at is same = record {
        number = zero;
        position = subst (λ (r : Reference). k + 0 ≡ r.position) same (omega (arith, at));
        there = subst (λ (r : Reference). ◌≡◌ {A = Option Field} (Some g) (Some r.field)) same (ap (λ (h : Field). Some h) is);
      }

      by : (target : Option ℕ)
          → find passes (in_case target [] (λ target. record { object = n; position = k; field = g; target = target } ∷ []) ++ flat_map (reference_at n) (enumerate_from (k + 1) fs)) ≡ Some f
          → (find passes (flat_map (reference_at n) (enumerate_from (k + 1) fs)) ≡ Some f → IsFieldAt (k + 1) fs f) → IsFieldAt k (g ∷ fs) f
      by None e more = later (more e)
      by (Some target) e more =
          let it : Reference = record { object = n; position = k; field = g; target = target } in
          pick (passes it) (λ b. cond b (Some it) (find passes (flat_map (reference_at n) (enumerate_from (k + 1) fs))) ≡ Some f → IsFieldAt k (g ∷ fs) f)
          (λ _ some. here it refl refl (some_is it f some))
          (λ _ rest. later (more rest))
          e

-- and its place has its name
record IsNamed (l : Layout) (f : Reference) : Type 0 where
  place : FieldPlace
  there : slice_get l.fields (f.position - 1) ≡ Some place
  name : place.name ≡ f.field.name

place_at : (q : OrgPlan) (n k i m : ℕ) (fs : List Field) (f : Field) → k + i ≡ m → slice_get fs i ≡ Some f → slice_get (map (place_of q n) (enumerate_from k fs)) i ≡ Some (place_of q n (m, f))
place_at q n k i m [] f e at = absurd cc
place_at q n k zero m (g ∷ fs) f e at =
    let same : k ≡ m = omega (arith, e) in
    ap (λ (i : ℕ). Some (place_of q n (i, g))) same ∙ ap (λ (h : Field). Some (place_of q n (m, h))) (some_is g f at)
place_at q n k (suc i) m (g ∷ fs) f e at = place_at q n (k + 1) i m fs f (omega (arith, e)) at

named_is : (q : OrgPlan) (t : Tenant) (l : Layout) (name : List ℕ) (f : Reference) → IsLayout q t l → parent_named t l.object name ≡ Some f → IsNamed l f
named_is q t l name f laid is =
    let it = layout_is q t l laid in
    let at = field_at l.object (λ (r : Reference). same_name (parent_name r.field.name) name) 1 it.object.fields f (sym (parent_is t l.object it.object name it.there) ∙ is) in
    let place = place_at q l.object 0 at.number at.number it.object.fields f.field (omega arith) at.there in
    let less : at.number ≡ f.position - 1 = omega (arith, at.position) in
    record {
      place = place_of q l.object (at.number, f.field);
      there = ap (λ (k : Layout). slice_get k.fields (f.position - 1)) (sym it.made)
          ∙ ap (λ (m : ℕ). slice_get (map (place_of q l.object) (enumerate_from 0 it.object.fields)) m) (sym less) ∙ place;
      name = refl;
    }

-- ---- a parent's column

-- the column of a field by the place of the unique field
abbrev column_by : (field : List ℕ) → (place : ℕ) → LoadColumn
column_by field place = record { field = field; find = Some place }

-- the reference of a step
record IsStep (t : Tenant) (n : ℕ) (relationship : List ℕ) (s : ParentStep) : Type 0 where
  reference : Reference
  found : parent_named t n relationship ≡ Some reference
  step : s ≡ parent_step reference

step_of : (t : Tenant) (n : ℕ) (relationship : List ℕ) (s : ParentStep) → Some s ≡ option_map parent_step (parent_named t n relationship) → IsStep t n relationship s
step_of t n relationship s is = by (parent_named t n relationship) refl is
  where
    by : (r : Option Reference) → parent_named t n relationship ≡ r → Some s ≡ option_map parent_step r → IsStep t n relationship s
    by None found e = absurd cc
    by (Some f) found e = record { reference = f; found = found; step = some_is s (parent_step f) e }

found_in : (field : List ℕ) (f : Reference) (target : Option Object)
    → option_and_then (λ (target : Object). option_map (found_by f) (unique_named target field)) target
    ≡ option_map (column_by f.field.name) (option_and_then (λ (target : Object). from_zero (unique_named target field)) target)
found_in field f None = refl
found_in field f (Some target) = by (unique_named target field)
  where
    by : (u : Option (ℕ × Field)) → option_map (found_by f) u ≡ option_map (column_by f.field.name) (from_zero u)
    by None = refl
    by (Some u) = refl

abbrev through : Tenant → (field : List ℕ) → Option Reference → Option LoadColumn
through t field r =
    option_and_then (λ (f : Reference). option_and_then (λ (target : Object). option_map (found_by f) (unique_named target field)) (object_numbered t f.target)) r

module _ (q : OrgPlan) (t : Tenant) (l : Layout) (relationship field : List ℕ) (laid : IsLayout q t l) where
  pub no_parent : None ≡ option_map parent_step (parent_named t l.object relationship) → None ≡ parent_column t l.object relationship field
  no_parent e = by (parent_named t l.object relationship) e
    where
      by : (r : Option Reference) → None ≡ option_map parent_step r → None ≡ through t field r
      by None e = refl
      by (Some f) e = absurd cc

  module _ (s : ParentStep) (is : Some s ≡ option_map parent_step (parent_named t l.object relationship)) where
    its : IsStep t l.object relationship s
    its = step_of t l.object relationship s is

    -- its column by the place of the unique field
    by_place : parent_column t l.object relationship field ≡ option_map (column_by its.reference.field.name) (unique_place t s.target field)
    by_place =
        let target : its.reference.target ≡ s.target = ap (λ (p : ParentStep). p.target) (sym its.step) in
        ap (through t field) its.found ∙ found_in field its.reference (object_numbered t its.reference.target)
        ∙ ap (λ (n : ℕ). option_map (column_by its.reference.field.name) (unique_place t n field)) target

    pub no_place : None ≡ unique_place t s.target field → None ≡ parent_column t l.object relationship field
    no_place none = sym (by_place ∙ ap (option_map (column_by its.reference.field.name)) (sym none))

    pub column_is : (place : ℕ) → Some place ≡ unique_place t s.target field → column_at l.fields s.position place ≡ parent_column t l.object relationship field
    column_is place there =
        let named = named_is q t l relationship its.reference laid its.found in
        let position : s.position ≡ its.reference.position = ap (λ (p : ParentStep). p.position) its.step in
        ap (λ (k : ℕ). column_at l.fields k place) position
        ∙ ap (option_map (λ (f : FieldPlace). column_by f.name place)) named.there
        ∙ ap (λ (name : List ℕ). Some (column_by name place)) named.name
        ∙ sym (by_place ∙ ap (option_map (column_by its.reference.field.name)) (sym there))

-- ---- a place is in a byte

pub small_number : {E : Type 0} (r : Result ℕ E) (m : ℕ) (made place : Option ℕ) → made ≡ result_ok r → OkIff r (m < 2 ^ 8) m → m < 40 → Some m ≡ place → made ≡ place
small_number r m made place is tried lt there = is ∙ by r tried
  where
    by : {E : Type 0} (r : Result ℕ E) → OkIff r (m < 2 ^ 8) m → result_ok r ≡ place
    by (Ok x) tried = ap (λ (k : ℕ). Some k) tried.1 ∙ there
    by (Err e) refused = absurd (refused (omega (arith, lt)))
