-- The records that refer to a record, all of which one page has.
use Rattle.std.proofs.Common.{◌≡◌, ℕ, suc, ◌+◌, ◌<◌, ◌≤◌, Bool, true, false, cond, bytes_eq, List, [], ◌∷◌, length, map, take, Some, None, refl, sym, ap, subst, ◌∙◌, inl, inr, arith}
use Rattle.std.specs.Prelude.{nat_lt, Result, Ok, Err}
use Rattle.std.proofs.lemmas.Bool.{eqb-true}
use Rattle.std.specs.List.{enumerate_from, filter}
use Rattle.std.proofs.lemmas.Bool.Decides.{nat_tests}
use Rattle.std.proofs.lemmas.List.{length-map, take_all}
use Rattle.std.proofs.Math.ListN.{get_or-eq_default}
use Rattle.std.proofs.lemmas.Option.{same_Some as some_same}
use Rattle.base_lemmas.proofs.Lists.{length-filter_most as few_filtered}
use Rattle.base_lemmas.proofs.Bools.{and_second as and_right, by_answer as pick}
use Rattle.record_read.proofs.Lists.{of_each}
use Rattle.record_read.proofs.Rising.{has_filter}
use Rattle.store_kv.specs.Tables.{Tables}
use Rattle.store_rows.specs.declared.fail.StoreFail.{StoreFail}
use Rattle.store_rows.specs.declared.fail.StoreFail.TheVariants.{Damaged, Keeper, Memory}
use Rattle.model.specs.declared.record.Record.{Record}
use Rattle.model.specs.Cases.{in_case}
use Rattle.model.specs.Jobs.{is_past}
use Rattle.model.specs.Known.{known}
use Rattle.model.specs.Levels.{can_read, readable}
use Rattle.model.specs.Membership.{Has}
use Rattle.model.specs.Objects.{is_of, object_number, object_numbered, records_of}
use Rattle.model.specs.Sound.{IsSound}
use Rattle.model.specs.SoundRecords.{IsSoundRecord, all_valid, kinds_of}
use Rattle.model.specs.Tenant.{Field, Object, Tenant, User}
use Rattle.query_plan.specs.Plans.{refers_by}
use Rattle.access_traits.specs.Rights.{Whose}
use Rattle.store_abstraction.specs.declared.layout.Layout.{Layout}
use Rattle.store_abstraction.specs.Layouts.{IsLayout, own_layouts, place_of}
use Rattle.store_abstraction.specs.Local.{StandsIn}
use Rattle.store_abstraction.specs.Plan.{OrgPlan}
use Rattle.store_abstraction.proofs.Placed.{no_records}
use Rattle.base_value.specs.Values.{ref_of, valid}
use Rattle.base_value.specs.declared.value.FieldType.{FieldType}
use Rattle.base_value.specs.declared.value.Value.{Value}
use Rattle.base_value.specs.declared.value.Value.TheVariants as value
use Rattle.query_plan.proofs.ByLayout.{layout_is}
use Rattle.query_plan.specs.declared.paths.children.ChildStep.{ChildStep}
use Rattle.query_related.specs.declared.parents.children.ChildPage.{ChildPage}
use Rattle.query_related.specs.parents.Children.{children_after, page_of}
use Rattle.query_related.specs.parents.Parents.{FindsBy}
use Rattle.query_related.specs.Children.{FindsOfAsked}
use Rattle.query_related.specs.inner.Referring.{few_of, readable_referring, those_referring}

-- ---- lists

-- two tests, whichever is made first
filter_swap : {X : Type 0} (p q : X → Bool) (xs : List X) → filter p (filter q xs) ≡ filter q (filter p xs)
filter_swap p q [] = refl
filter_swap {X = X} p q (x ∷ xs) =
    pick (q x) (λ b. filter p (cond b (x ∷ filter q xs) (filter q xs)) ≡ cond (p x) (cond b (x ∷ filter q (filter p xs)) (filter q (filter p xs))) (filter q (filter p xs)))
    (λ _. ap (λ (ys : List X). cond (p x) (x ∷ ys) ys) (filter_swap p q xs))
    (λ _. filter_swap p q xs ∙ sym (alike (p x) (filter q (filter p xs))))
    ∙ sym (through (p x))
  where
    alike : (b : Bool) (ys : List X) → cond b ys ys ≡ ys
    alike true ys = refl
    alike false ys = refl

    through : (b : Bool) → filter q (cond b (x ∷ filter p xs) (filter p xs)) ≡ cond b (cond (q x) (x ∷ filter q (filter p xs)) (filter q (filter p xs))) (filter q (filter p xs))
    through true = refl
    through false = refl

-- all pass a test
filter_each : {X : Type 0} (p : X → Bool) (xs : List X) → ((x : X) → p x ≡ true) → filter p xs ≡ xs
filter_each p [] h = refl
filter_each p (x ∷ xs) h = rw (h x, filter_each p xs h) refl

-- none passes
pub filter_none : {X : Type 0} (p : X → Bool) (xs : List X) → ((x : X) → Has xs x → p x ≡ false) → filter p xs ≡ []
filter_none p [] h = refl
filter_none p (x ∷ xs) h = rw (h x (inl refl), filter_none p xs (λ y has. h y (inr has))) refl

-- ---- those of one page

module _ (t : Tenant) (sound : IsSound t) (n : ℕ) where
  few_records : length (records_of t n) ≤ 20000
  few_records = sound.records.few_of n

  pub few_referring : (u : User) (field : ℕ) (id : List ℕ) → length (readable_referring t u n field id) ≤ 20000
  unfolding readable
  few_referring u field id =
      let one = few_filtered (refers_by field id) (filter (can_read t u) (records_of t n)) in
      let two = few_filtered (can_read t u) (records_of t n) in
      omega (arith, one, two, few_records)

  -- those of a page that is as long as an object's records
  pub all_there : (u : User) (field : ℕ) (id : List ℕ) → filter (can_read t u) (children_after n field id None 20000 t) ≡ readable_referring t u n field id
  unfolding readable children_after
  all_there u field id =
      let those = filter (refers_by field id) (records_of t n) in
      let some = few_filtered (refers_by field id) (records_of t n) in
      let few : length those ≤ 20000 = omega (arith, some, few_records) in
      ap (filter (can_read t u)) (ap (take 20000) (filter_each (λ (r : Record). is_past None r.id) those (λ r. refl)) ∙ take_all 20000 those few)
      ∙ filter_swap (can_read t u) (refers_by field id) (records_of t n)

-- ---- those of no object, and by no field

-- an object that isn't there has no records
pub of_no_object : (t : Tenant) (u : User) → IsSound t → (n field : ℕ) (id : List ℕ) → object_numbered t n ≡ None → readable_referring t u n field id ≡ []
unfolding readable
of_no_object t u sound n field id gone =
    ap (λ (rs : List Record). filter (refers_by field id) (filter (can_read t u) rs)) (filter_none (is_of n) t.records (no_records t n sound gone))

as_many : (ks : List FieldType) (vs : List Value) → all_valid ks vs ≡ true → length vs ≡ length ks
as_many [] [] e = refl
as_many [] (v ∷ vs) e = absurd cc
as_many (k ∷ ks) [] e = absurd cc
as_many (k ∷ ks) (v ∷ vs) e = ap suc (as_many ks vs (and_right (valid k v) (all_valid ks vs) e))

length_fields : (q : OrgPlan) (n k : ℕ) (fs : List Field) → length (map (place_of q n) (enumerate_from k fs)) ≡ length fs
length_fields q n k [] = refl
length_fields q n k (f ∷ fs) = ap suc (length_fields q n (k + 1) fs)

module _ (q : OrgPlan) (t : Tenant) (l : Layout) (sound : IsSound t) (laid : IsLayout q t l) where
  -- a record of the layout's object has the name, and a value for each of its fields
  values_of : (r : Record) → Has (records_of t l.object) r → length r.values ≡ suc (length l.fields)
  values_of r among =
      let is = layout_is q t l laid in
      let (has, of) = has_filter (is_of l.object) t.records r among in
      let it = of_each (IsSoundRecord (known t) t.objects) t.records r sound.records.each has in
      let number : object_number r.id ≡ l.object = eqb-true (object_number r.id) l.object of in
      let same : it.object ≡ is.object = some_same it.object is.object (sym it.there ∙ ap (λ (n : ℕ). object_numbered t n) number ∙ is.there) in
      let fields : length l.fields ≡ length is.object.fields = ap (λ (k : Layout). length k.fields) (sym is.made) ∙ length_fields q l.object 0 is.object.fields in
      as_many (kinds_of it.object) r.values it.values ∙ ap suc (length-map it.object.fields (λ (f : Field). f.kind) ∙ ap (λ (o : Object). length o.fields) same ∙ sym fields)

  -- by a field that the object doesn't have no record refers
  pub of_no_field : (u : User) (field : ℕ) (id : List ℕ) → length l.fields ≤ field → readable_referring t u l.object field id ≡ []
  unfolding readable
  of_no_field u field id past =
      filter_none (refers_by field id) (filter (can_read t u) (records_of t l.object)) (λ r has.
      let many = values_of r (has_filter (can_read t u) (records_of t l.object) r has).0 in
      let short : length r.values ≤ field + 1 = omega (arith, many, past) in
      ap (λ (v : Value). in_case (ref_of v) false (bytes_eq id)) (get_or-eq_default r.values value.Null short))

-- ---- what is found

module _ (l : Layout) (whose : Whose) (m : Tables) (field : ℕ) (id : List ℕ) where
  abbrev Found : Result (List Record) StoreFail → Type 0
  Found = FindsBy l whose (λ t u. readable_referring t u l.object field id) m

  -- by the page that was read
  pub by_page : (page : ChildPage) → FindsBy l whose (λ t u. page_of t u (children_after l.object field id None 20000 t)) m (Ok page)
      → (result : Result (List Record) StoreFail) → result ≡ few_of page.records → Found result
  by_page page h result is = subst Found (sym is) (by (nat_lt 20000 (length page.records)) refl)
    where
      those : (q : OrgPlan) (t : Tenant) (u : User) → StandsIn l.org q m (Some t) → IsLayout q t l → whose t u → page.records ≡ readable_referring t u l.object field id
      those q t u s its who = ap (λ (p : ChildPage). p.records) (h q t u s its who) ∙ all_there t s.sound l.object u field id

      by : (b : Bool) → nat_lt 20000 (length page.records) ≡ b → Found (cond b (Err Damaged) (Ok page.records))
      by true over = λ q t u s its who.
          let few = few_referring t s.sound l.object u field id in
          let same = ap length (those q t u s its who) in
          let many : 20000 < length page.records = grind (arith, nat_tests) in
          omega (arith, few, same, many)
      by false within = those

-- by the layout of the object
module _ (layouts : List Layout) (whose : Whose) (m : Tables) (step : ChildStep) (id : List ℕ) where
  abbrev FoundBy : Result (List Record) StoreFail → Type 0
  FoundBy = FindsOfAsked layouts whose (λ a. those_referring a step id) m

  pub by_layout : (l : Layout)
      → ((org : ℕ) (q : OrgPlan) (t : Tenant) → layouts ≡ own_layouts org q (Some t) → (l.org ≡ org) × (l.object ≡ step.object) × IsLayout q t l)
      → (x : Result (List Record) StoreFail) → FindsBy l whose (λ t u. readable_referring t u l.object step.field id) m x → FoundBy x
  by_layout l own (Ok y) h = λ org q a s all who.
      let it = own org q a.tenant all in
      h q a.tenant a.user (subst (λ (n : ℕ). StandsIn n q m (Some a.tenant)) (sym it.0) s) it.2 who
      ∙ ap (λ (n : ℕ). readable_referring a.tenant a.user n step.field id) it.1
  by_layout l own (Err Damaged) h = λ org q a s all who.
      let it = own org q a.tenant all in
      h q a.tenant a.user (subst (λ (n : ℕ). StandsIn n q m (Some a.tenant)) (sym it.0) s) it.2 who
  by_layout l own (Err Keeper) h = tt
  by_layout l own (Err Memory) h = tt

  -- there is no such object
  pub by_none : ((org : ℕ) (q : OrgPlan) (t : Tenant) → layouts ≡ own_layouts org q (Some t) → object_numbered t step.object ≡ None) → FoundBy (Ok [])
  by_none gone = λ org q a s all who. sym (of_no_object a.tenant a.user s.sound step.object step.field id (gone org q a.tenant all))
