-- What a child subquery shows by its plan is what the definition of a row has.
use Rattle.std.proofs.Common.{◌≡◌, ℕ, zero, suc, ◌+◌, ◌-◌, Bool, false, ◌&&◌, List, [], ◌∷◌, ◌++◌, map, filter, take, flat_map, Option, Some, None, refl, sym, ap, subst, ◌∙◌, arith, append-nil, inl, inr, ◌⊎◌, ℤ}
use Rattle.std.specs.Prelude.{◌==◌, bytes_eq, slice_get, unwrap_or}
use Rattle.std.specs.List.{AllByRecursion, enumerate_from}
use Rattle.std.specs.Option.{option_and_then, option_map}
use Rattle.std.proofs.lemmas.Bool.{eqb-true}
use Rattle.std.proofs.lemmas.Option.{none-some as no_layout, same_Some as some_is}
use Rattle.formula.specs.Meaning.{value_at}
use Rattle.base_value.specs.Printing.{day_of_moment}
use Rattle.base_value.specs.Values.{ref_of}
use Rattle.soql.specs.declared.query.Item.TheVariants as item
use Rattle.soql.specs.declared.query.Path.{Path}
use Rattle.soql.specs.declared.query.Tail.{Tail}
use Rattle.model.specs.declared.record.Record.{Record}
use Rattle.model.specs.Cases.{in_case, with_before}
use Rattle.model.specs.Conditions.{satisfies}
use Rattle.model.specs.Fields.{same_name}
use Rattle.model.specs.Levels.{can_read, readable}
use Rattle.model.specs.Membership.{Has}
use Rattle.model.specs.Objects.{is_of, object_number, records_of}
use Rattle.model.specs.Ordered.{before, in_order}
use Rattle.model.specs.Paths.{Asked}
use Rattle.model.specs.Relationships.{Reference, child_named, reference_at, references, references_of, refers_to, target_of}
use Rattle.model.specs.Rows.{chosen, found_children, limited, readable_of}
use Rattle.model.specs.RowsJson.{child_relationship, children_json, item_member, member_json, object_json, object_name, row_within}
use Rattle.model.specs.Tenant.{Field, Object, Tenant}
use Rattle.store_abstraction.specs.Layouts.{IsLayout, own_layouts, place_of}
use Rattle.store_abstraction.specs.Plan.{OrgPlan}
use Rattle.store_abstraction.specs.declared.layout.FieldPlace.{FieldPlace}
use Rattle.store_abstraction.specs.declared.layout.Layout.{Layout}
use Rattle.query_plan.specs.paths.Branches.{AddsBranches, record_above}
use Rattle.query_plan.specs.paths.ByLayout.{child_of}
use Rattle.query_plan.specs.paths.Ways.{child_step}
use Rattle.query_plan.specs.declared.paths.branches.Branch.{Branch}
use Rattle.query_plan.specs.declared.paths.branches.Place.{Place}
use Rattle.query_plan.specs.declared.paths.children.ChildStep.{ChildStep}
use Rattle.query_plan.proofs.ByLayout.{child_by_layouts, layout_is, numbered_layout, read_is}
use Rattle.query_plan.proofs.Owned.{found_has, from, numbered_as}
use Rattle.query_plan.specs.declared.plan.Child.{Child}
use Rattle.query_plan.specs.declared.plan.Choice.{Choice}
use Rattle.query_plan.specs.declared.plan.Member.{Member}
use Rattle.query_bind.specs.declared.selecting.BoundChild.{BoundChild}
use Rattle.query_plan.specs.Plans.{Chooses, children_by, chosen_by, parents_by, refers_by}
use Rattle.query_plan.specs.Shown.{Shows, ShowsJson, child_text, member_text, type_and_address}
use Rattle.query_bind.specs.inner.Members.{IsLed, Sees, ShowsPaths}
use Rattle.query_bind.specs.inner.Selecting.{BindsChild, BindsFound, ChildServes, child_name}
use Rattle.query_bind.specs.inner.Spots.{IsOf, Setting, far_of}
use Rattle.query_bind.specs.inner.Tails.{TailServes}
use Rattle.query_check.specs.Ways.{child_layout, layout_at}
use Rattle.query_plan.proofs.Found.{chosen_same, order_has}
use Rattle.query_plan.proofs.Lists.{at_number, kept}
use Rattle.query_bind.proofs.Showing.{object_shown}
use Rattle.query_bind.proofs.Tailed.{tail_chooses}

-- ---- the field of a child relationship

-- a reference among those of numbered fields is of this object, and the one with its position
record IsFieldOf (n k : ℕ) (fs : List Field) (f : Reference) : Type 0 where
  object : f.object ≡ n
  number : ℕ
  position : k + number ≡ f.position
  there : slice_get fs number ≡ Some f.field

field_of : (n k : ℕ) (fs : List Field) (f : Reference) → Has (flat_map (reference_at n) (enumerate_from k fs)) f → IsFieldOf n k fs f
field_of n k [] f h = absurd h
field_of n k (g ∷ fs) f h = by (target_of g.kind) h (field_of n (k + 1) fs f)
  where
    later : IsFieldOf n (k + 1) fs f → IsFieldOf n k (g ∷ fs) f
    later it = record { object = it.object; number = suc it.number; position = omega (arith, it.position); there = it.there }

    by : (target : Option ℕ)
        → Has (in_case target [] (λ target. record { object = n; position = k; field = g; target = target } ∷ []) ++ flat_map (reference_at n) (enumerate_from (k + 1) fs)) f
        → (Has (flat_map (reference_at n) (enumerate_from (k + 1) fs)) f → IsFieldOf n (k + 1) fs f) → IsFieldOf n k (g ∷ fs) f
    by None h more = later (more h)
    by (Some target) (inl e) more = record {
      object = ap (λ (r : Reference). r.object) e;
      number = zero;
      position = subst (λ (r : Reference). k + 0 ≡ r.position) (sym e) (omega arith);
      there = ap (λ (r : Reference). Some r.field) (sym e);
    }
    by (Some target) (inr h) more = later (more h)

-- of one among those of all objects, its object and its field there
record IsFieldIn (k : ℕ) (os : List Object) (f : Reference) : Type 0 where
  object : Object
  place : ℕ
  numbered : k + place ≡ f.object
  there : slice_get os place ≡ Some object
  number : ℕ
  position : 1 + number ≡ f.position
  own : slice_get object.fields number ≡ Some f.field

either : (xs ys : List Reference) (f : Reference) → Has (xs ++ ys) f → Has xs f ⊎ Has ys f
either [] ys f h = inr h
either (x ∷ xs) ys f (inl e) = inl (inl e)
either (x ∷ xs) ys f (inr h) = behind (either xs ys f h)
  where
    behind : Has xs f ⊎ Has ys f → Has (x ∷ xs) f ⊎ Has ys f
    behind (inl h) = inl (inr h)
    behind (inr h) = inr h

field_in : (k : ℕ) (os : List Object) (f : Reference) → Has (flat_map references_of (from k os)) f → IsFieldIn k os f
field_in k [] f h = absurd h
field_in k (o ∷ os) f h = by (either (references_of (numbered_as k o)) (flat_map references_of (from (k + 1) os)) f h) (field_in (k + 1) os f)
  where
    by : Has (references_of (numbered_as k o)) f ⊎ Has (flat_map references_of (from (k + 1) os)) f
        → (Has (flat_map references_of (from (k + 1) os)) f → IsFieldIn (k + 1) os f) → IsFieldIn k (o ∷ os) f
    by (inl h) more =
        let it = field_of k 1 o.fields f h in
        record { object = o; place = zero; numbered = omega (arith, it.object); there = refl; number = it.number; position = it.position; own = it.there }
    by (inr h) more =
        let it = more h in
        record { object = it.object; place = suc it.place; numbered = omega (arith, it.numbered); there = it.there; number = it.number; position = it.position; own = it.own }

child_field : (t : Tenant) (n : ℕ) (name : List ℕ) (f : Reference) → child_named t n name ≡ Some f → IsFieldIn 0 t.objects f
unfolding child_named
child_field t n name f e = field_in 0 t.objects f (found_has (λ f. (f.target == n) && in_case f.field.child false (same_name name)) (references t.objects) f e)

-- by the layout of its object the name is the one of the relationship
child_name_is : (q : OrgPlan) (t : Tenant) (n : ℕ) (name : List ℕ) (f : Reference) (child : Layout) → child_named t n name ≡ Some f → IsLayout q t child → child.object ≡ f.object
    → child_name child (f.position - 1) name ≡ unwrap_or f.field.child name
child_name_is q t n name f child named laid object =
    let it = layout_is q t child laid in
    let at = child_field t n name f named in
    let place : at.place ≡ f.object = omega (arith, at.numbered) in
    let same : at.object ≡ it.object = some_is at.object it.object (sym at.there ∙ ap (slice_get t.objects) (place ∙ sym object) ∙ it.there) in
    let own : slice_get it.object.fields at.number ≡ Some f.field = subst (λ (o : Object). slice_get o.fields at.number ≡ Some f.field) same at.own in
    let less : f.position - 1 ≡ at.number = omega (arith, at.position) in
    let spelled = λ (x : Option FieldPlace). in_case x name (λ (g : FieldPlace). unwrap_or g.child name) in
    ap (λ (k : Layout). child_name k (f.position - 1) name) (sym it.made)
    ∙ ap (λ (m : ℕ). spelled (slice_get (map (place_of q child.object) (enumerate_from 0 it.object.fields)) m)) less
    ∙ ap spelled (at_number (place_of q child.object) it.object.fields 0 at.number at.number f.field (omega arith) own)

-- ---- which records it finds

number_of : (s : Setting) (l : Layout) (r : Record) → IsOf s l r → object_number r.id ≡ l.object
number_of s l r is = eqb-true (object_number r.id) l.object (kept (is_of l.object) s.asked.tenant.records r is.has).1

-- a step that is one of a reference
record IsStepOf (o : Option Reference) (step : ChildStep) : Type 0 where
  reference : Reference
  there : o ≡ Some reference
  same : child_step reference ≡ step

step_of : (o : Option Reference) (step : ChildStep) → option_map child_step o ≡ Some step → IsStepOf o step
step_of None step e = absurd (clash step e)
  where
    clash : (step : ChildStep) → ◌≡◌ {A = Option ChildStep} None (Some step) → ⊥
    clash step e = cc
step_of (Some f) step e = record { reference = f; there = refl; same = some_is (child_step f) step e }

taken_has : {X : Type 0} (n : ℕ) (xs : List X) (x : X) → Has (take n xs) x → Has xs x
taken_has zero xs x h = absurd h
taken_has (suc n) [] x h = absurd h
taken_has (suc n) (y ∷ xs) x (inl e) = inl e
taken_has (suc n) (y ∷ xs) x (inr h) = inr (taken_has n xs x h)

limited_has : {X : Type 0} (most : Option ℕ) (xs : List X) (x : X) → Has (limited most xs) x → Has xs x
limited_has None xs x h = h
limited_has (Some n) xs x h = taken_has n xs x h

chosen_has : (a : Asked) (tail : Tail) (rs : List Record) (r : Record) → Has (chosen a tail 0 rs) r → Has rs r
chosen_has a tail rs r h =
    (kept (satisfies a tail.condition) rs r
    (order_has (before a tail.order) (filter (satisfies a tail.condition) rs) r
    (limited_has tail.limit (in_order (before a tail.order) (filter (satisfies a tail.condition) rs)) r h))).0

readable_has : (a : Asked) (n : ℕ) (p : Record → Bool) (r : Record) → Has (filter p (readable_of a n)) r → Has (records_of a.tenant n) r
unfolding readable
readable_has a n p r h = (kept (can_read a.tenant a.user) (records_of a.tenant n) r (kept p (readable_of a n) r h).0).0

-- ---- what is shown of each

each_same : {X Y Z : Type 0} (make : X → Y) (f : Y → Z) (g : X → Z) (xs : List X) → ((x : X) → Has xs x → f (make x) ≡ g x) → map f (map make xs) ≡ map g xs
each_same make f g [] e = refl
each_same make f g (x ∷ xs) e = ap (λ y. y ∷ map f (map make xs)) (e x (inl refl)) ∙ ap (λ ys. g x ∷ ys) (each_same make f g xs (λ y h. e y (inr h)))

module _ (ls : List Layout) (l child : Layout) (step : ChildStep) (day : ℤ) (paths : List Path) (tail : Tail) (b : BoundChild) (binds : BindsFound ls child step day paths tail b) (by_step : child_of l.object tail.from ls ≡ Some step)
    (at : layout_at ls step.object ≡ Some child) where
  abbrev choice : Choice
  choice = b.plan.choice

  there_is : child_layout ls l tail.from ≡ Some child
  unfolding child_layout
  there_is = ap (λ (o : Option ChildStep). option_and_then (λ (s : ChildStep). layout_at ls s.object) o) by_step ∙ at

  abbrev made_by : Asked → Record → Child
  made_by a x = record { «record» = x; parents = parents_by a choice x }

  module _ (s : Setting) (shows : Shows) (r : Record) (today : day ≡ day_of_moment s.asked.now) (all : ls ≡ own_layouts s.org s.plan (Some s.asked.tenant)) (serves : ChildServes s ls l paths tail) (is : IsOf s l r)
      (json : ShowsJson s.asked.tenant shows) where
    abbrev t : Tenant
    t = s.asked.tenant

    laid : (child.object ≡ step.object) × IsLayout s.plan t child
    laid =
        let read = read_is s.org step.object s.plan t child (sym (numbered_layout s.org step.object s.plan t ls all) ∙ at) in
        (read.number, read.layout)

    its_layout : serves.layout ≡ child
    its_layout = some_is serves.layout child (sym serves.there ∙ there_is)

    its : IsStepOf (child_named t l.object tail.from) step
    its = step_of (child_named t l.object tail.from) step (sym (child_by_layouts s.org s.plan t ls l.object tail.from all) ∙ by_step)

    abbrev f : Reference
    f = its.reference

    named : child_named t (object_number r.id) tail.from ≡ Some f
    named = ap (λ (n : ℕ). child_named t n tail.from) (number_of s l r is) ∙ its.there

    object_is : child.object ≡ f.object
    object_is = laid.0 ∙ ap (λ (x : ChildStep). x.object) (sym its.same)

    of_child : (x : Record) → Has (records_of t child.object) x → IsOf s child x
    of_child x h = record { laid = laid.1; sound = is.sound; has = h }

    name_is : b.name ≡ child_relationship s.asked r tail.from
    name_is =
        binds.name
        ∙ ap (λ (x : ChildStep). child_name child x.field tail.from) (sym its.same)
        ∙ child_name_is s.plan t l.object tail.from f child its.there laid.1 object_is
        ∙ sym (ap (λ (o : Option Reference). in_case o tail.from (λ (f : Reference). unwrap_or f.field.child tail.from)) named)

    abbrev theirs : List Record
    theirs = filter (refers_to r.id f) (readable_of s.asked f.object)

    ours_are : filter (refers_by b.plan.step.field r.id) (readable_of s.asked b.plan.step.object) ≡ theirs
    ours_are =
        let field = child_field t l.object tail.from f its.there in
        let position : f.position - 1 + 1 ≡ f.position = omega (arith, field.position) in
        ap (λ (x : ChildStep). filter (refers_by x.field r.id) (readable_of s.asked x.object)) (binds.step ∙ sym its.same)
        ∙ ap (λ (m : ℕ). filter (λ (x : Record). in_case (ref_of (value_at x.values m)) false (bytes_eq r.id)) (readable_of s.asked f.object)) position

    theirs_has : (x : Record) → Has theirs x → Has (records_of t child.object) x
    theirs_has x h = subst (λ (n : ℕ). Has (records_of t n) x) (sym object_is) (readable_has s.asked f.object (refers_to r.id f) x h)

    chooses : Chooses s.asked child.object tail 0 choice
    chooses =
        tail_chooses s ls child day tail choice.branches [] (record { check = choice.check; order = choice.order }) 0 choice binds.rows
        (subst (λ (k : Layout). TailServes s ls k tail) its_layout serves.chosen)
        today laid.1 is.sound (sym (append-nil choice.branches)) refl refl binds.skip binds.most

    found_are : chosen_by s.asked choice (filter (refers_by b.plan.step.field r.id) (readable_of s.asked b.plan.step.object)) ≡ found_children s.asked r tail
    unfolding found_children
    found_are =
        ap (chosen_by s.asked choice) ours_are
        ∙ chosen_same s.asked child.object tail 0 choice chooses theirs theirs_has
        ∙ sym (ap (λ (o : Option Reference). in_case o [] (λ (f : Reference). chosen s.asked tail 0 (filter (refers_to r.id f) (readable_of s.asked f.object)))) named)

    found_has_object : (x : Record) → Has (found_children s.asked r tail) x → Has (records_of t child.object) x
    unfolding found_children
    found_has_object x h =
        theirs_has x (chosen_has s.asked tail theirs x
        (subst (λ (o : Option Reference). Has (in_case o [] (λ (f : Reference). chosen s.asked tail 0 (filter (refers_to r.id f) (readable_of s.asked f.object)))) x) named h))

    text_is : (x : Record) → Has (found_children s.asked r tail) x → child_text shows b.object b.members (made_by s.asked x) ≡ row_within 6 s.asked x (map item.Path paths)
    text_is x h =
        let own = of_child x (found_has_object x h) in
        let sees : Sees s shows ls child paths x = record { own = own; json = json; led = subst (λ (k : Layout). AllByRecursion (IsLed s ls k) paths) its_layout serves.led } in
        let texts = map (member_text shows (far_of s x choice.branches) x) b.members in
        ap (λ (n : List ℕ). object_json (type_and_address n x.id ∷ texts)) (binds.object ∙ object_shown s child x own)
        ∙ ap (λ (ts : List (List ℕ)). object_json (type_and_address (object_name s.asked x) x.id ∷ ts)) (binds.members s shows x sees)

    texts_are : map (child_text shows b.object b.members) (children_by s.asked r b.plan) ≡ map (λ x. row_within 6 s.asked x (map item.Path paths)) (found_children s.asked r tail)
    texts_are =
        ap (λ (xs : List Record). map (child_text shows b.object b.members) (map (made_by s.asked) xs)) found_are
        ∙ each_same (made_by s.asked) (child_text shows b.object b.members) (λ x. row_within 6 s.asked x (map item.Path paths)) (found_children s.asked r tail) text_is

  pub child_bound : BindsChild ls l day paths tail b
  child_bound s shows r today serves is json selected bef =
      let rows = map (λ x. row_within 6 s.asked x (map item.Path paths)) (found_children s.asked r tail) in
      ap (λ (n : List ℕ). member_json n (children_json (map (child_text shows b.object b.members) (children_by s.asked r b.plan))) ∷ [])
      (name_is s shows r today serves.0 serves.1 is json)
      ∙ ap (λ (ts : List (List ℕ)). member_json (child_relationship s.asked r tail.from) (children_json ts) ∷ []) (texts_are s shows r today serves.0 serves.1 is json)

-- the members were bound first, and the tail may have added branches
pub members_found : (ls : List Layout) (from : Place) → from.branch ≡ None → (paths : List Path) (mid new bs : List Branch) → AddsBranches mid new → bs ≡ new → (ms : List Member) → ShowsPaths ls from 5 paths mid ms
    → (s : Setting) (shows : Shows) (r : Record) → Sees s shows ls from.layout.now paths r
    → map (member_text shows (far_of s r bs) r) ms ≡ flat_map (λ x. item_member (row_within 5 s.asked) s.asked r (map item.Path paths) x.before x.it) (with_before [] (map item.Path paths))
members_found ls from top paths mid new bs adds same ms shown s shows r sees =
    ap (λ (all : List Branch). map (member_text shows (far_of s r all) r) ms) (same ∙ adds.behind)
    ∙ shown s shows r r sees adds.more (ap (record_above r (far_of s r (mid ++ adds.more))) top)

pub no_step_bound : (ls : List Layout) (l : Layout) (day : ℤ) (paths : List Path) (tail : Tail) (b : BoundChild) → child_of l.object tail.from ls ≡ None → BindsChild ls l day paths tail b
unfolding child_layout
no_step_bound ls l day paths tail b none s shows r today serves is json selected bef =
    absurd (no_layout serves.1.layout (sym (ap (λ (o : Option ChildStep). option_and_then (λ (x : ChildStep). layout_at ls x.object) o) none) ∙ serves.1.there))

pub no_layout_bound : (ls : List Layout) (l : Layout) (step : ChildStep) (day : ℤ) (paths : List Path) (tail : Tail) (b : BoundChild) → child_of l.object tail.from ls ≡ Some step → layout_at ls step.object ≡ None
    → BindsChild ls l day paths tail b
unfolding child_layout
no_layout_bound ls l step day paths tail b by_step none s shows r today serves is json selected bef =
    absurd (no_layout serves.1.layout (sym (ap (λ (o : Option ChildStep). option_and_then (λ (x : ChildStep). layout_at ls x.object) o) by_step ∙ none) ∙ serves.1.there))
