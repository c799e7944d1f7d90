-- An object's first Master field, in the model and in its layout, and the master of a sound tenant's record.
use Rattle.std.proofs.Common.{◌≡◌, ℕ, zero, suc, ◌+◌, ◌<◌, Bool, true, false, bytes_eq, not, ◌&&◌, cond, eqb, List, [], ◌∷◌, ◌++◌, length, map, Option, Some, None, is_some, refl, sym, ap, subst, ◌∙◌, inl, inr, arith, ne_eqb as apart}
use Rattle.std.specs.Prelude.{◌==◌, ◌⊎◌, nat_lt, slice_get}
use Rattle.std.specs.List.{enumerate_from, find, flat_map, list_all}
use Rattle.std.specs.Option.{option_and_then, option_map}
use Rattle.std.proofs.lemmas.Bool.{eqb-true}
use Rattle.std.proofs.lemmas.Bool.Decides.{nat_tests}
use Rattle.base_lemmas.proofs.Bools.{and_second as right, by_answer as pick}
use Rattle.base_lemmas.proofs.Lists.{find-append_later as find_left, find-append_sooner as find_right, slice_get_not_none as there_below}
use Rattle.base_lemmas.proofs.Numbers.{eqb-self as eqb_same}
use Rattle.std.proofs.lemmas.Option.{same_Some as some_is}
use Rattle.base_value.specs.declared.value.FieldType.{FieldType}
use Rattle.base_value.specs.declared.value.FieldType.TheVariants as type
use Rattle.formula.specs.Meaning.{value_at}
use Rattle.model.specs.declared.record.Record.{Record}
use Rattle.model.specs.Cases.{in_case}
use Rattle.model.specs.Fields.{is_master, ref_of}
use Rattle.model.specs.Known.{item_of, known}
use Rattle.model.specs.Membership.{Has}
use Rattle.model.specs.Objects.{Numbered, is_of, object_number, object_numbered, record_at}
use Rattle.model.specs.Relationships.{Reference, master_of_object, reference_at, references_of, target_of}
use Rattle.model.specs.Rights.{record_of_object}
use Rattle.model.specs.Sound.{IsSound}
use Rattle.model.specs.SoundMetadata.{IsSoundField}
use Rattle.model.specs.SoundRecords.{IsSoundRecord, is_sound_reference}
use Rattle.model.specs.Tenant.{Field, Object, Tenant}
use Rattle.model.specs.World.{having_id}
use Rattle.store_abstraction.specs.declared.layout.Layout.{Layout}
use Rattle.store_abstraction.specs.Layouts.{IsLayout, place_of}
use Rattle.store_abstraction.specs.Plan.{OrgPlan}
use Rattle.store_abstraction.proofs.Found.{found_with_id}
use Rattle.store_abstraction.proofs.MetadataRows.{sound_object}
use Rattle.access_user.specs.declared.steps.MasterField.{MasterField}
use Rattle.access_user.specs.inner.Steps.{master_from, master_target}
use Rattle.access_user.proofs.Layouts.{IsOf, layout_is}
use Rattle.people_rows.proofs.SharingFits.{all_has}

-- ---- lists

found_in : {X : Type 0} (p : X → Bool) (xs : List X) (x : X) → find p xs ≡ Some x → Has xs x × (p x ≡ true)
found_in p [] x e = absurd cc
found_in p (y ∷ xs) x e =
    pick (p y) (λ b. p y ≡ b → cond b (Some y) (find p xs) ≡ Some x → Has (y ∷ xs) x × (p x ≡ true))
    (λ _ is some. let same : y ≡ x = some_is y x some in (inl (sym same), subst (λ z. p z ≡ true) same is))
    (λ _ _ more. let rest = found_in p xs x more in (inr rest.0, rest.1))
    refl
    e

has_either : {X : Type 0} (xs ys : List X) (x : X) → Has (xs ++ ys) x → Has xs x ⊎ Has ys x
has_either [] ys x h = inr h
has_either (y ∷ xs) ys x (inl e) = inl (inl e)
has_either {X = X} (y ∷ xs) ys x (inr h) = by (has_either xs ys x h)
  where
    by : Has xs x ⊎ Has ys x → Has (y ∷ xs) x ⊎ Has ys x
    by (inl g) = inl (inr g)
    by (inr g) = inr g

each_holds : {X : Type 0} (p : X → Bool) (xs : List X) (x : X) → list_all p xs ≡ true → Has xs x → p x ≡ true
each_holds p [] x all h = absurd h
each_holds p (y ∷ xs) x all (inl e) = subst (λ z. p z ≡ true) (sym e) (and_left (p y) (list_all p xs) all)
  where
    and_left : (a b : Bool) → (a && b) ≡ true → a ≡ true
    and_left true b h = refl
    and_left false b h = absurd cc
each_holds p (y ∷ xs) x all (inr h) = each_holds p xs x (and_right (p y) (list_all p xs) all) h
  where
    and_right : (a b : Bool) → (a && b) ≡ true → b ≡ true
    and_right true b h = h
    and_right false b h = absurd cc

-- ---- the reference of an object to its masters

-- objects with their numbers, where the first has this one
abbrev from : ℕ → List Object → List Numbered
from k os = map (λ (o : ℕ × Object). record { number = o.0; object = o.1 }) (enumerate_from k os)

abbrev pub test : ℕ → Reference → Bool
test n f = (f.object == n) && is_master f.field.kind

module _ (n : ℕ) where
  none_of : (m k : ℕ) (fs : List Field) → eqb m n ≡ false → find (test n) (flat_map (reference_at m) (enumerate_from k fs)) ≡ None
  none_of m k [] e = refl
  none_of m k (f ∷ fs) e = by (target_of f.kind) refl (none_of m (k + 1) fs e)
    where
      by : (target : Option ℕ) → target_of f.kind ≡ target
          → find (test n) (flat_map (reference_at m) (enumerate_from (k + 1) fs)) ≡ None
          → find (test n) (reference_at m (k, f) ++ flat_map (reference_at m) (enumerate_from (k + 1) fs)) ≡ None
      by (Some target) is rest = rw (is, e) rest
      by None is rest = rw is rest

  none_past : (k : ℕ) (os : List Object) → n < k → find (test n) (flat_map references_of (from k os)) ≡ None
  none_past k [] lt = refl
  none_past k (o ∷ os) lt =
      find_left (test n) (references_of (record { number = k; object = o })) (flat_map references_of (from (k + 1) os)) (none_of k 1 o.fields (apart k n (λ e. omega (arith, lt, e))))
      ∙ none_past (k + 1) os (omega (arith, lt))

  of_one : (k i : ℕ) (os : List Object) (o : Object) → k + i ≡ n → slice_get os i ≡ Some o
      → find (test n) (flat_map references_of (from k os)) ≡ find (test n) (references_of (record { number = n; object = o }))
  of_one k i [] o e at = absurd cc
  of_one k zero (x ∷ os) o e at =
      let same : k ≡ n = omega (arith, e) in
      find_right (test n) (references_of (record { number = k; object = x })) (flat_map references_of (from (k + 1) os)) (none_past (k + 1) os (omega (arith, e)))
      ∙ ap (λ (m : ℕ). find (test n) (references_of (record { number = m; object = x }))) same
      ∙ ap (λ (y : Object). find (test n) (references_of (record { number = n; object = y }))) (some_is x o at)
  of_one k (suc i) (x ∷ os) o e at =
      find_left (test n) (references_of (record { number = k; object = x })) (flat_map references_of (from (k + 1) os)) (none_of k 1 x.fields (apart k n (λ s. omega (arith, s, e))))
      ∙ of_one (k + 1) i os o (omega (arith, e)) at

  pub of_object : (os : List Object) (o : Object) → slice_get os n ≡ Some o → master_of_object os n ≡ find (test n) (references_of (record { number = n; object = o }))
  of_object os o at = of_one 0 n os o (omega arith) at

  -- in its layout
  abbrev as_field : Reference → MasterField
  as_field f = record { position = f.position; target = f.target }

  module _ (q : OrgPlan) where
    placed : (k j : ℕ) (fs : List Field) → option_map as_field (find (test n) (flat_map (reference_at n) (enumerate_from k fs))) ≡ master_from k (map (place_of q n) (enumerate_from j fs))
    placed k j [] = refl
    placed k j (f ∷ fs) = by f.kind refl (placed (k + 1) (j + 1) fs)
      where
        by : (kind : FieldType) → f.kind ≡ kind
            → option_map as_field (find (test n) (flat_map (reference_at n) (enumerate_from (k + 1) fs))) ≡ master_from (k + 1) (map (place_of q n) (enumerate_from (j + 1) fs))
            → option_map as_field (find (test n) (reference_at n (k, f) ++ flat_map (reference_at n) (enumerate_from (k + 1) fs)))
            ≡ in_case (master_target f.kind) (master_from (k + 1) (map (place_of q n) (enumerate_from (j + 1) fs))) (λ target. Some (record { position = k; target = target }))
        by (type.Text m) is rest = rw is rest
        by (type.Number d e) is rest = rw is rest
        by type.Checkbox is rest = rw is rest
        by type.Day is rest = rw is rest
        by type.Moment is rest = rw is rest
        by (type.Picklist vs) is rest = rw is rest
        by (type.Lookup o d) is rest = rw (is, eqb_same n) rest
        by (type.Master o) is rest = rw (is, eqb_same n) refl

-- an object's reference is one of its fields
field_of : (n k : ℕ) (fs : List Field) (f : Reference) → Has (flat_map (reference_at n) (enumerate_from k fs)) f → (g : Field) × Has fs g × (target_of g.kind ≡ Some f.target)
field_of n k [] f h = absurd h
field_of n k (g ∷ fs) f h = by (has_either (reference_at n (k, g)) (flat_map (reference_at n) (enumerate_from (k + 1) fs)) f h) (field_of n (k + 1) fs f)
  where
    here : (target : Option ℕ) → target_of g.kind ≡ target → Has (in_case target [] (λ target. record { object = n; position = k; field = g; target = target } ∷ [])) f → target_of g.kind ≡ Some f.target
    here None is h = absurd h
    here (Some target) is (inl e) = is ∙ ap (λ (r : Reference). Some r.target) (sym e)
    here (Some target) is (inr h) = absurd h

    by : Has (reference_at n (k, g)) f ⊎ Has (flat_map (reference_at n) (enumerate_from (k + 1) fs)) f
        → (Has (flat_map (reference_at n) (enumerate_from (k + 1) fs)) f → (g : Field) × Has fs g × (target_of g.kind ≡ Some f.target))
        → (g' : Field) × Has (g ∷ fs) g' × (target_of g'.kind ≡ Some f.target)
    by (inl h) rest = (g, inl refl, here (target_of g.kind) refl h)
    by (inr h) rest = let (g', has, is) = rest h in (g', inr has, is)

-- ---- by a layout

module _ (q : OrgPlan) (t : Tenant) (l : Layout) (is : IsLayout q t l) where
  one : IsOf q t l
  one = layout_is q t l is

  by_layout : option_map (as_field l.object) (master_of_object t.objects l.object) ≡ master_from 1 l.fields
  by_layout =
      ap (option_map (as_field l.object)) (of_object l.object t.objects one.object one.there)
      ∙ placed l.object q 1 0 one.object.fields
      ∙ ap (λ (k : Layout). master_from 1 k.fields) one.made

  pub none_there : None ≡ master_from 1 l.fields → master_of_object t.objects l.object ≡ None
  none_there none = by (master_of_object t.objects l.object) (by_layout ∙ sym none)
    where
      by : (f : Option Reference) → option_map (as_field l.object) f ≡ None → f ≡ None
      by None e = refl
      by (Some f) e = absurd cc

  pub record FirstMaster (m : MasterField) : Type 0 where
    pub reference : Reference
    pub first : master_of_object t.objects l.object ≡ Some reference
    pub position : m.position ≡ reference.position
    pub target : m.target ≡ reference.target

  pub first_there : (m : MasterField) → Some m ≡ master_from 1 l.fields → FirstMaster m
  first_there m some = by (master_of_object t.objects l.object) refl (by_layout ∙ sym some)
    where
      by : (f : Option Reference) → master_of_object t.objects l.object ≡ f → option_map (as_field l.object) f ≡ Some m → FirstMaster m
      by None at e = absurd cc
      by (Some f) at e =
          let same : m ≡ as_field l.object f = sym (some_is (as_field l.object f) m e) in
          record { reference = f; first = at; position = ap (λ (x : MasterField). x.position) same; target = ap (λ (x : MasterField). x.target) same }

  -- its target is there
  pub target_there : IsSound t → (f : Reference) → master_of_object t.objects l.object ≡ Some f → object_numbered t f.target ≡ None → ⊥
  target_there sound f first none =
      let found = found_in (test l.object) (references_of (record { number = l.object; object = one.object })) f (sym (of_object l.object t.objects one.object one.there) ∙ first) in
      let (g, has, at) = field_of l.object 1 one.object.fields f found.0 in
      let field = all_has (IsSoundField (length t.objects)) one.object.fields g (sound_object t l.object one.object sound one.there).fields has in
      let below : nat_lt f.target (length t.objects) ≡ true = subst (λ (o : Option ℕ). in_case o true (λ n. nat_lt n (length t.objects)) ≡ true) at field.target in
      there_below t.objects f.target (grind (arith, nat_tests)) none

-- ---- the master of a record

-- a record's reference names this one
pub record HasMaster (t : Tenant) (r : Record) (f : Reference) : Type 0 where
  pub id : List ℕ
  pub named : ref_of (value_at r.values f.position) ≡ Some id
  pub item : Record
  pub at : record_at t id ≡ Some item
  pub has : Has t.records item
  pub number : object_number item.id ≡ f.target

pub having_has : {X : Type 0} (id : X → List ℕ) (xs : List X) (i : List ℕ) (x : X) → having_id id xs i ≡ Some x → Has xs x
having_has id [] i x e = absurd cc
having_has id (y ∷ xs) i x e =
    pick (bytes_eq i (id y)) (λ b. cond b (Some y) (having_id id xs i) ≡ Some x → Has (y ∷ xs) x)
    (λ _ some. inl (sym (some_is y x some)))
    (λ _ more. inr (having_has id xs i x more))
    e

pub master_of : (t : Tenant) → IsSound t → (r : Record) (f : Reference) → Has t.records r → master_of_object t.objects (object_number r.id) ≡ Some f → HasMaster t r f
master_of t s r f m e = by_id (ref_of (value_at r.values f.position)) refl sound_reference
  where
    w : IsSoundRecord (known t) t.objects r
    w = all_has (IsSoundRecord (known t) t.objects) t.records r s.records.each m

    found : Has (references_of (record { number = object_number r.id; object = w.object })) f × (test (object_number r.id) f ≡ true)
    found = found_in (test (object_number r.id)) (references_of (record { number = object_number r.id; object = w.object })) f (sym (of_object (object_number r.id) t.objects w.object w.there) ∙ e)

    master : is_master f.field.kind ≡ true
    master = right (f.object == object_number r.id) (is_master f.field.kind) found.1

    sound_reference : is_sound_reference (known t) r.values f ≡ true
    sound_reference = each_holds (is_sound_reference (known t) r.values) (references_of (record { number = object_number r.id; object = w.object })) f w.references found.0

    by_record : (id : List ℕ) (o : Option Record) → record_at t id ≡ o → ref_of (value_at r.values f.position) ≡ Some id → (is_some o && (object_number id == f.target)) ≡ true → HasMaster t r f
    by_record id None at named h = absurd cc
    by_record id (Some x) at named h =
        let same = found_with_id (λ (r : Record). r.id) (IsSoundRecord (known t) t.objects) t.records id x s.records.each at in
        record {
          id = id;
          named = named;
          item = x;
          at = at;
          has = having_has (λ (r : Record). r.id) t.records id x at;
          number = ap object_number same.0 ∙ eqb-true _ _ h;
        }

    clash : false ≡ true → ⊥
    clash e = cc

    by_id : (i : Option (List ℕ)) → ref_of (value_at r.values f.position) ≡ i → in_case i (not (is_master f.field.kind)) (item_of (known t) f.target) ≡ true → HasMaster t r f
    by_id None named h = absurd (clash (sym (ap not master) ∙ h))
    by_id (Some id) named h = by_record id (record_at t id) refl named h

-- it is the record of the target that has the id
pub master_found : (t : Tenant) (r : Record) (f : Reference) (m : HasMaster t r f) → record_of_object t f.target m.id ≡ Some m.item
master_found t r f m =
    ap (λ (o : Option Record). option_and_then (λ (x : Record). cond (is_of f.target x) (Some x) None) o) m.at
    ∙ ap (λ (b : Bool). cond b (Some m.item) None) (ap (λ (n : ℕ). eqb n f.target) m.number ∙ eqb_same f.target)
