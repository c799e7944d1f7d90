-- What is read of an organisation's objects and fields is what its tenant has there.
use Rattle.std.proofs.Common.{◌≡◌, ℕ, suc, ◌+◌, ◌<◌, ◌≤◌, ◌^◌, ◌==◌, Bool, true, false, not, cond, eqb, IsTrue, Option, Some, None, List, [], ◌∷◌, ◌++◌, length, refl, sym, ap, subst, ◌∙◌, arith, map, take}
use Rattle.std.specs.Prelude.{Result, Ok, Err, Vec, slice_get}
use Rattle.std.specs.List.{enumerate_from, find}
use Rattle.std.specs.Option.{option_and_then, option_map}
use Rattle.std.proofs.lemmas.List.{append-nil, length-map, map_push, take_all}
use Rattle.std.proofs.lemmas.List.FromFn.{length-enumerate_from}
use Rattle.std.proofs.lemmas.Simd.{map-map as map_again}
use Rattle.store_kv.specs.declared.keeper.KeptRow.{KeptRow}
use Rattle.store_kv.specs.Prefixes.{raised}
use Rattle.store_kv.specs.Tables.{Tables, is_between, rows_between}
use Rattle.store_rows.specs.declared.fail.StoreFail.{StoreFail}
use Rattle.store_rows.specs.declared.fail.StoreFail.TheVariants.{Keeper, Memory, Damaged}
use Rattle.store_rows.specs.declared.field.FieldRow.{FieldRow}
use Rattle.store_rows.specs.declared.job.JobRow.{JobRow}
use Rattle.store_rows.specs.declared.object.ObjectRow.{ObjectRow}
use Rattle.store_rows.specs.Listings.{rows_to}
use Rattle.store_rows.specs.Reads.{ListsAs}
use Rattle.store_rows.specs.Rows.{field_form, object_form}
use Rattle.store_codec.specs.Plain.{number16, number32}
use Rattle.model.specs.Cases.{in_case}
use Rattle.model.specs.Fields.{same_name}
use Rattle.model.specs.Objects.{Numbered, object_named, object_numbered}
use Rattle.model.specs.Tenant as model
use Rattle.model.specs.Tenant.{Tenant}
use Rattle.store_abstraction.specs.inner.LayoutRows.{ListsIn, field_rows, job_of_row, layout_by, layout_by_found, layouts_by, object_rows, place_of_row, places_in, row_named}
use Rattle.store_abstraction.specs.Layouts.{job_on, layout_of, own_change_row, own_layout, own_layout_named, own_layouts, place_of}
use Rattle.store_abstraction.specs.Local.{FindsIn, StandsIn, is_place_of, part_of, rows_alone}
use Rattle.store_abstraction.specs.Metadata.{field_of, job_of, row_of_object}
use Rattle.store_abstraction.specs.Plan.{OrgPlan}
use Rattle.store_abstraction.specs.declared.layout.FieldPlace.{FieldPlace}
use Rattle.store_abstraction.specs.declared.layout.JobPlace.{JobPlace}
use Rattle.store_abstraction.specs.declared.layout.Layout.{Layout}
use Rattle.store_abstraction.proofs.Found.{row_in_org}
use Rattle.store_abstraction.proofs.Intervals.{under_shorter}
use Rattle.store_abstraction.proofs.MetadataLists.{KeyLaws, fields_listed, objects_listed}
use Rattle.store_abstraction.proofs.MetadataRows.{job_there, object_there, sound_object}
use Rattle.store_abstraction.proofs.Pages.{GivesRows, PageLaws, page_gives}

-- ---- what failed

pub err_again : {X Y : Type 0} (n : ℕ) (v : OrgPlan → Option Tenant → X) (u : OrgPlan → Option Tenant → Y) (m : Tables) (e : StoreFail) → FindsIn n v m (Err e) → FindsIn n u m (Err e)
err_again n v u m Damaged h = h
err_again n v u m Keeper h = tt
err_again n v u m Memory h = tt

list_err : {X Y : Type 0} (A : Type 0) (n : ℕ) (v : OrgPlan → Option Tenant → List X) (u : OrgPlan → Option Tenant → Y) (m : Tables) (e : StoreFail) → ListsIn {A = A} n v m (Err e) → FindsIn n u m (Err e)
list_err A n v u m Damaged h = h
list_err A n v u m Keeper h = tt
list_err A n v u m Memory h = tt

pub list_failed : {X Y A : Type 0} (n : ℕ) (v : OrgPlan → Option Tenant → List X) (u : OrgPlan → Option Tenant → Y) (m : Tables) (r : Result (Vec X A) StoreFail) (e : StoreFail) → r ≡ Err e → ListsIn n v m r → FindsIn n u m (Err e)
list_failed {A = A} n v u m r e is h = list_err A n v u m e (subst (ListsIn n v m) is h)

given_in : {X A : Type 0} (n : ℕ) (v : OrgPlan → Option Tenant → List X) (m : Tables) (r : Result (Vec X A) StoreFail) → ((q : OrgPlan) (t : Option Tenant) → StandsIn n q m t → GivesRows (v q t) r) → ListsIn n v m r
given_in n v m (Ok rows) h = h
given_in n v m (Err Damaged) h = h
given_in n v m (Err Keeper) h = tt
given_in n v m (Err Memory) h = tt

-- ---- pages

few_objects : (q : OrgPlan) (m : Tables) (t : Option Tenant) (org : ℕ) → StandsIn org q m t → length (object_rows org q t) ≤ 101
unfolding object_rows
few_objects q m None org s = omega arith
few_objects q m (Some t) org s =
    let few = s.sound.metadata.few in
    omega (arith, few, length-map (enumerate_from 0 t.objects) (λ (x : ℕ × model.Object). row_of_object org t x.0 x.1), length-enumerate_from 0 t.objects)

few_fields : (q : OrgPlan) (m : Tables) (t : Option Tenant) (org n : ℕ) → StandsIn org q m t → length (field_rows org n q t) ≤ 41
unfolding field_rows
few_fields q m None org n s = omega arith
few_fields q m (Some t) org n s = of_object (object_numbered t n) refl
  where
    of_object : (o : Option model.Object) → object_numbered t n ≡ o → length (in_case o [] (λ o. map (λ (f : ℕ × model.Field). field_of org q n f.0 f.1) (enumerate_from 0 o.fields))) ≤ 41
    of_object None here = omega arith
    of_object (Some o) here =
        let few = (sound_object t n o s.sound here).few_fields in
        omega (arith, few, length-map (enumerate_from 0 o.fields) (λ (f : ℕ × model.Field). field_of org q n f.0 f.1), length-enumerate_from 0 o.fields)

-- the rows of an interval of the organisation are those of its part
abbrev pub ListedIn : Type 0
ListedIn = (m : Tables) (n table : ℕ) (from below : List ℕ) → ((key : List ℕ) → IsTrue (is_between from below key) → is_place_of n (table, key) ≡ true) → rows_between m table from below ≡ rows_between (part_of n m) table from below

module _ (keys : KeyLaws) (listed : ListedIn) where
  in_part : (m : Tables) (org table : ℕ) (rest : List ℕ) → not (table == 0) ≡ true → rows_to m table (number32 org ++ rest) (raised (number32 org ++ rest)) ≡ rows_to (part_of org m) table (number32 org ++ rest) (raised (number32 org ++ rest))
  in_part m org table rest nonzero = by (raised (number32 org ++ rest)) refl
    where
      by : (a : Option (List ℕ)) → raised (number32 org ++ rest) ≡ a → rows_to m table (number32 org ++ rest) a ≡ rows_to (part_of org m) table (number32 org ++ rest) a
      by None e = refl
      by (Some above) e = listed m org table (number32 org ++ rest) above (λ key inside. rw (nonzero, under_shorter (number32 org) rest above key e inside) refl)

  pub objects_read : PageLaws object_form → (m : Tables) (org : ℕ) → org < 2 ^ 32 → {A : Type 0} (r : Result (Vec ObjectRow A) StoreFail)
      → ListsAs object_form (take 101 (rows_to m 2 (number32 org) (raised (number32 org)))) r → ListsIn org (object_rows org) m r
  objects_read pages m org lo r e =
      let here : rows_to m 2 (number32 org) (raised (number32 org)) ≡ rows_to (part_of org m) 2 (number32 org) (raised (number32 org)) =
      subst (λ (x : List ℕ). rows_to m 2 x (raised x) ≡ rows_to (part_of org m) 2 x (raised x)) (append-nil (number32 org)) (in_part m org 2 [] refl) in
      let e = subst (λ (rows : List KeptRow). ListsAs object_form (take 101 rows) r) here e in
      given_in org (object_rows org) m r (λ q t s.
      subst (λ (rows : List ObjectRow). GivesRows rows r) (take_all 101 (object_rows org q t) (few_objects q m t org s))
      (page_gives object_form pages (part_of org m) (rows_alone org q t) s.rows (number32 org) (raised (number32 org)) (object_rows org q t) 101 (objects_listed keys q m org lo t s) r e))

  pub fields_read : PageLaws field_form → (m : Tables) (org n : ℕ) → org < 2 ^ 32 → n < 2 ^ 16 → {A : Type 0} (r : Result (Vec FieldRow A) StoreFail)
      → ListsAs field_form (take 41 (rows_to m 3 (number32 org ++ number16 n) (raised (number32 org ++ number16 n)))) r → ListsIn org (field_rows org n) m r
  fields_read pages m org n lo small r e =
      let e = subst (λ (rows : List KeptRow). ListsAs field_form (take 41 rows) r) (in_part m org 3 (number16 n) refl) e in
      given_in org (field_rows org n) m r (λ q t s.
      subst (λ (rows : List FieldRow). GivesRows rows r) (take_all 41 (field_rows org n q t) (few_fields q m t org n s))
      (page_gives field_form pages (part_of org m) (rows_alone org q t) s.rows (number32 org ++ number16 n) (raised (number32 org ++ number16 n)) (field_rows org n q t) 41 (fields_listed keys q m org lo n small t s) r e))

-- ---- places

places_are : (org n : ℕ) (q : OrgPlan) (t : Option Tenant) → map place_of_row (field_rows org n q t) ≡ places_in n q t
unfolding field_rows places_in
places_are org n q None = refl
places_are org n q (Some t) = of_object (object_numbered t n)
  where
    of_object : (o : Option model.Object) → map place_of_row (in_case o [] (λ o. map (λ (f : ℕ × model.Field). field_of org q n f.0 f.1) (enumerate_from 0 o.fields))) ≡ in_case o [] (λ o. map (place_of q n) (enumerate_from 0 o.fields))
    of_object None = refl
    of_object (Some o) = map_again place_of_row (λ (f : ℕ × model.Field). field_of org q n f.0 f.1) (enumerate_from 0 o.fields)

pub places_found : (org n : ℕ) (m : Tables) (rows : List FieldRow) (places : List FieldPlace) → places ≡ map place_of_row rows
    → ((q : OrgPlan) (t : Option Tenant) → StandsIn org q m t → rows ≡ field_rows org n q t) → FindsIn org (places_in n) m (Ok places)
places_found org n m rows places is h = λ q t s. is ∙ ap (map place_of_row) (h q t s) ∙ places_are org n q t

-- ---- changes

pub change_is : (org : ℕ) (q : OrgPlan) (t : Option Tenant) → option_and_then (job_there org q) t ≡ own_change_row org q t
unfolding own_change_row
change_is org q None = refl
change_is org q (Some t) = refl

job_is : (org n : ℕ) (q : OrgPlan) (t : Tenant) → option_and_then (job_of_row n) (own_change_row org q (Some t)) ≡ job_on q t n
unfolding own_change_row
job_is org n q t = of_job t.job
  where
    of_job : (j : Option model.Job) → option_and_then (job_of_row n) (option_map (job_of org q) j) ≡ option_and_then (λ (j : model.Job). cond (eqb j.object n) (Some (record { field = j.field; kind = (job_of org q j).kind; twin = q.other; phase = j.phase; cursor = j.cursor })) None) j
    of_job None = refl
    of_job (Some j) = refl

-- ---- layouts

-- the layout of an object by its row and that of the change
by_row : (org : ℕ) (q : OrgPlan) (t : Tenant) (n : ℕ) (o : model.Object) → object_numbered t n ≡ Some o → layout_by org (row_of_object org t n o) (own_change_row org q (Some t)) q (Some t) ≡ layout_of org q t (record { number = n; object = o })
unfolding places_in
by_row org q t n o g =
    let fields : in_case (object_numbered t n) [] (λ o. map (place_of q n) (enumerate_from 0 o.fields)) ≡ map (place_of q n) (enumerate_from 0 o.fields) =
    ap (λ (x : Option model.Object). in_case x [] (λ o. map (place_of q n) (enumerate_from 0 o.fields))) g in
    let job = job_is org n q t in
    λ i. record { org = org; object = n; name = o.name; access = o.access; hierarchy = o.hierarchy; fields = fields i; job = job i }

-- a layout's parts, once they are read
pub layout_found : (org : ℕ) (r : ObjectRow) (change : Option JobRow) (m : Tables) (places : List FieldPlace) (job : Option JobPlace) → FindsIn org (places_in r.object) m (Ok places) → job ≡ option_and_then (job_of_row r.object) change
    → FindsIn org (layout_by org r change) m (Ok (record { org = org; object = r.object; name = r.name; access = r.access.access; hierarchy = r.access.hierarchy; fields = places; job = job }))
layout_found org r change m places job h is = λ q t s.
    let fields = h q t s in
    λ i. record { org = org; object = r.object; name = r.name; access = r.access.access; hierarchy = r.access.hierarchy; fields = fields i; job = is i }

pub one_found : (org : ℕ) (r : ObjectRow) (change : Option JobRow) (m : Tables) (l : Layout) → FindsIn org (own_change_row org) m (Ok change) → FindsIn org (layout_by org r change) m (Ok l) → FindsIn org (layout_by_found org (Some r)) m (Ok (Some l))
one_found org r change m l h g = λ q t s. ap Some (g q t s ∙ ap (λ (x : Option JobRow). layout_by org r x q t) (h q t s))

abbrev layout_in : ℕ → OrgPlan → Option Tenant → ObjectRow → Layout
layout_in org q t r = layout_by org r (own_change_row org q t) q t

layout_at_is : (org n : ℕ) (q : OrgPlan) (t : Option Tenant) → option_map (layout_in org q t) (option_and_then (object_there org n q) t) ≡ own_layout org n q t
unfolding own_layout
layout_at_is org n q None = refl
layout_at_is org n q (Some t) = of_object (object_numbered t n) refl
  where
    of_object : (o : Option model.Object) → object_numbered t n ≡ o → option_map (layout_in org q (Some t)) (option_map (row_of_object org t n) o) ≡ option_map (layout_of org q t) (option_map (λ o. record { number = n; object = o }) o)
    of_object None g = refl
    of_object (Some o) g = ap Some (by_row org q t n o g)

-- the same of what each tenant has there, by other words
again_in : {X : Type 0} (n : ℕ) (v u : OrgPlan → Option Tenant → X) (m : Tables) (r : Result X StoreFail) → ((q : OrgPlan) (t : Option Tenant) → StandsIn n q m t → v q t ≡ u q t) → FindsIn n v m r → FindsIn n u m r
again_in n v u m (Ok x) same h = λ q t s. h q t s ∙ same q t s
again_in n v u m (Err Damaged) same h = h
again_in n v u m (Err Keeper) same h = tt
again_in n v u m (Err Memory) same h = tt

pub at_found : (org n : ℕ) (m : Tables) (row : Option ObjectRow) (r : Result (Option Layout) StoreFail) → FindsIn org (row_in_org (object_there org n)) m (Ok row) → FindsIn org (layout_by_found org row) m r → FindsIn org (own_layout org n) m r
at_found org n m row r h g = again_in org (layout_by_found org row) (own_layout org n) m r (λ q t s. ap (option_map (layout_in org q t)) (h q t s) ∙ layout_at_is org n q t) g

-- what is found by a name
module _ (org : ℕ) (q : OrgPlan) (t : Tenant) where
  abbrev row_from : ℕ × model.Object → ObjectRow
  row_from x = row_of_object org t x.0 x.1

  abbrev as_numbered : ℕ × model.Object → Numbered
  as_numbered x = record { number = x.0; object = x.1 }

  -- these are the tenant's objects from a number on
  abbrev AreFrom : ℕ → List model.Object → Type 0
  AreFrom k os = (i : ℕ) (o : model.Object) → slice_get os i ≡ Some o → object_numbered t (k + i) ≡ Some o

  first_from : (k : ℕ) (o : model.Object) (os : List model.Object) → AreFrom k (o ∷ os) → object_numbered t k ≡ Some o
  first_from k o os h = subst (λ (n : ℕ). object_numbered t n ≡ Some o) (omega arith) (h 0 o refl)

  rest_from : (k : ℕ) (o : model.Object) (os : List model.Object) → AreFrom k (o ∷ os) → AreFrom (k + 1) os
  rest_from k o os h i x there = subst (λ (n : ℕ). object_numbered t n ≡ Some x) (omega arith) (h (suc i) x there)

  named_from : (name : List ℕ) (k : ℕ) (os : List model.Object) → AreFrom k os
      → option_map (layout_in org q (Some t)) (find (λ (r : ObjectRow). same_name r.name name) (map row_from (enumerate_from k os)))
      ≡ option_map (layout_of org q t) (find (λ (o : Numbered). same_name o.object.name name) (map as_numbered (enumerate_from k os)))
  named_from name k [] h = refl
  named_from name k (o ∷ os) h = by (same_name o.name name) (named_from name (k + 1) os (rest_from k o os h))
    where
      by : (b : Bool) → option_map (layout_in org q (Some t)) (find (λ (r : ObjectRow). same_name r.name name) (map row_from (enumerate_from (k + 1) os)))
          ≡ option_map (layout_of org q t) (find (λ (o : Numbered). same_name o.object.name name) (map as_numbered (enumerate_from (k + 1) os)))
          → option_map (layout_in org q (Some t)) (cond b (Some (row_of_object org t k o)) (find (λ (r : ObjectRow). same_name r.name name) (map row_from (enumerate_from (k + 1) os))))
          ≡ option_map (layout_of org q t) (cond b (Some (record { number = k; object = o })) (find (λ (o : Numbered). same_name o.object.name name) (map as_numbered (enumerate_from (k + 1) os))))
      by true later = ap Some (by_row org q t k o (first_from k o os h))
      by false later = later

  all_from : (k : ℕ) (os : List model.Object) → AreFrom k os → map (layout_in org q (Some t)) (map row_from (enumerate_from k os)) ≡ map (layout_of org q t) (map as_numbered (enumerate_from k os))
  all_from k [] h = refl
  all_from k (o ∷ os) h =
      let here = by_row org q t k o (first_from k o os h) in
      let later = all_from (k + 1) os (rest_from k o os h) in
      λ i. here i ∷ later i

  are_all : AreFrom 0 t.objects
  are_all i o there = subst (λ (n : ℕ). object_numbered t n ≡ Some o) (omega arith) there

layout_named_is : (org : ℕ) (name : List ℕ) (q : OrgPlan) (t : Option Tenant) → option_map (layout_in org q t) (row_named name (object_rows org q t)) ≡ own_layout_named org name q t
unfolding own_layout_named object_named object_rows
layout_named_is org name q None = refl
layout_named_is org name q (Some t) = named_from org q t name 0 t.objects (are_all org q t)

pub named_found : (org : ℕ) (name : List ℕ) (m : Tables) (rows : List ObjectRow) (r : Result (Option Layout) StoreFail)
    → ((q : OrgPlan) (t : Option Tenant) → StandsIn org q m t → rows ≡ object_rows org q t) → FindsIn org (layout_by_found org (row_named name rows)) m r → FindsIn org (own_layout_named org name) m r
named_found org name m rows r h g =
    again_in org (layout_by_found org (row_named name rows)) (own_layout_named org name) m r (λ q t s. ap (λ (x : List ObjectRow). option_map (layout_in org q t) (row_named name x)) (h q t s) ∙ layout_named_is org name q t) g

layouts_are : (org : ℕ) (q : OrgPlan) (t : Option Tenant) → map (layout_in org q t) (object_rows org q t) ≡ own_layouts org q t
unfolding own_layouts object_rows
layouts_are org q None = refl
layouts_are org q (Some t) = all_from org q t 0 t.objects (are_all org q t)

pub layouts_found : (org : ℕ) (m : Tables) (rows : List ObjectRow) (change : Option JobRow) (r : Result (List Layout) StoreFail)
    → ((q : OrgPlan) (t : Option Tenant) → StandsIn org q m t → rows ≡ object_rows org q t) → FindsIn org (own_change_row org) m (Ok change) → FindsIn org (layouts_by org rows change) m r → FindsIn org (own_layouts org) m r
layouts_found org m rows change r h k g =
    again_in org (layouts_by org rows change) (own_layouts org) m r
    (λ q t s. ap (λ (x : Option JobRow). layouts_by org rows x q t) (k q t s) ∙ ap (map (layout_in org q t)) (h q t s) ∙ layouts_are org q t) g

-- one layout more
pub more_layouts : (org : ℕ) (q : OrgPlan) (t : Option Tenant) (change : Option JobRow) (rows : List ObjectRow) (row : ObjectRow) (all after : List Layout) (l : Layout) → after ≡ all ++ l ∷ [] → all ≡ layouts_by org rows change q t → l ≡ layout_by org row change q t
    → after ≡ layouts_by org (rows ++ row ∷ []) change q t
more_layouts org q t change rows row all after l is old new =
    is ∙ ap (λ (x : List Layout). x ++ l ∷ []) old ∙ ap (λ (x : Layout). layouts_by org rows change q t ++ x ∷ []) new ∙ sym (map_push (λ r. layout_by org r change q t) rows row)
