-- The records that hold one that goes: those that are found by layouts are those of which the model speaks.
use Rattle.std.proofs.Common.{◌≡◌, ℕ, suc, ◌+◌, Bool, true, false, not, ◌&&◌, List, [], ◌∷◌, ◌++◌, length, map, Option, Some, None, refl, sym, ap, subst, ◌∙◌, inl, inr, arith, bytes_eq}
use Rattle.std.specs.Prelude.{◌==◌, ◌⊎◌, if◌then◌else◌, slice_get}
use Rattle.std.specs.List.{enumerate_from, filter, flat_map, list_all, list_any}
use Rattle.std.proofs.lemmas.Bool.{eqb-true, and_from as both}
use Rattle.std.proofs.lemmas.Slice.Eq.{bytes_eq-Decides}
use Rattle.base_lemmas.proofs.Bools.{and_first as and_left, and_second as and_right, by_answer as pick, same_both_ways as same_bool}
use Rattle.std.proofs.lemmas.Option.{same_Some as some_is}
use Rattle.base_value.specs.declared.value.FieldType.{FieldType}
use Rattle.base_value.specs.declared.value.FieldType.TheVariants as type
use Rattle.formula.specs.Meaning.{value_at}
use Rattle.model.specs.declared.record.Record.{Record}
use Rattle.model.specs.declared.refusal.Refusal.TheVariants.{DeleteFailed}
use Rattle.model.specs.Cases.{in_case}
use Rattle.model.specs.Deletes.{has_id, is_cleared, name_at, refers_into, refers_to_one_of, restricts}
use Rattle.model.specs.Fields.{is_master, ref_of}
use Rattle.model.specs.Known.{item_of, known}
use Rattle.model.specs.Membership.{Has}
use Rattle.model.specs.Objects.{is_of, object_number, records_of}
use Rattle.model.specs.Relationships.{Reference, reference_at, references_of, target_of}
use Rattle.model.specs.Rules.{Rule, first_of, first_refusal, refuse_if}
use Rattle.model.specs.Sound.{IsSound}
use Rattle.model.specs.SoundRecords.{IsSoundRecord, is_sound_reference}
use Rattle.model.specs.Tenant.{Field, Object, Tenant}
use Rattle.store_abstraction.specs.declared.layout.FieldPlace.{FieldPlace}
use Rattle.store_abstraction.specs.declared.layout.Layout.{Layout}
use Rattle.store_abstraction.specs.Layouts.{layout_of, place_of}
use Rattle.store_abstraction.specs.Plan.{OrgPlan}
use Rattle.record_read.proofs.Lists.{of_each}
use Rattle.record_read.proofs.Rising.{filter_has, has_filter}
use Rattle.record_references.specs.Referring.{all_referring, refers_by}
use Rattle.record_cascade.specs.inner.Holding.{HaveIds, cleared_at, cleared_from, is_any, restricted_at, restricted_from, staying}
use Rattle.record_cascade.specs.inner.Masters.{ids_of, is_among}
use Rattle.record_cascade.proofs.Among.{any_has, among_has, append_has, flat_has, has_among, has_any, has_append, has_flat, has_id_of, id_of_has, record_ids}

-- ---- tests

each_holds : {X : Type 0} (p : X → Bool) (xs : List X) → list_all p xs ≡ true → (x : X) → Has xs x → p x ≡ true
each_holds p [] all x h = absurd h
each_holds {X = X} p (y ∷ ys) all x (inl e) = subst (λ (z : X). p z ≡ true) (sym e) (and_left (p y) (list_all p ys) all)
each_holds p (y ∷ ys) all x (inr h) = each_holds p ys (and_right (p y) (list_all p ys) all) x h

none_less : (n : ℕ) → suc n ≡ 0 → ⊥
none_less n e = omega (arith, e)

pub any_from : (ids : List (List ℕ)) (i : List ℕ) → Has ids i → is_any ids ≡ true
any_from [] i h = absurd h
any_from (j ∷ ids) i h = pick (suc (length ids) == 0) (λ b. not b ≡ true) (λ e. absurd (none_less (length ids) (eqb-true (suc (length ids)) 0 e))) (λ _. refl)

pub one_of : (ids : List (List ℕ)) → is_any ids ≡ true → (i : List ℕ) × Has ids i
one_of [] e = absurd cc
one_of (i ∷ ids) e = (i, inl refl)

-- what refers to no object doesn't restrict
no_target : (k : FieldType) → target_of k ≡ None → restricts k ≡ false
no_target (type.Lookup object on_delete) e = absurd cc
no_target k e = refl

-- ---- rules

-- one rule, and then the same
pub rule_more : (r : Rule) (xs ys : List Rule) → first_refusal xs ≡ first_refusal ys → first_refusal (r ∷ xs) ≡ first_refusal (r ∷ ys)
rule_more None xs ys e = e
rule_more (Some refusal) xs ys e = refl

-- rules, and then others
pub rules_more : {X : Type 0} (rule : X → Rule) (xs ys : List X) (rest : List Rule) → first_of rule ys ≡ first_refusal rest → first_of rule (xs ++ ys) ≡ first_refusal (first_of rule xs ∷ rest)
rules_more rule [] ys rest e = e
rules_more rule (x ∷ xs) ys rest e = by (rule x) (rules_more rule xs ys rest e)
  where
    by : (r : Rule) → first_of rule (xs ++ ys) ≡ first_refusal (first_of rule xs ∷ rest)
        → first_refusal (r ∷ map rule (xs ++ ys)) ≡ first_refusal (first_refusal (r ∷ map rule xs) ∷ rest)
    by None more = more
    by (Some refusal) more = refl

-- ---- sound references

module _ (t : Tenant) (sound : IsSound t) (n k : ℕ) (o : Object) (there : slice_get t.objects n ≡ Some o) (target : ℕ) (f : Field) where
  abbrev it : Reference
  it = record { object = n; position = k + 1; field = f; target = target }

  -- a record's reference is sound
  pub sound_reference : Has (references_of (record { number = n; object = o })) it → (x : Record) → Has t.records x → is_of n x ≡ true → is_sound_reference (known t) x.values it ≡ true
  sound_reference has x here of =
      let number : object_number x.id ≡ n = eqb-true (object_number x.id) n of in
      let own = of_each (IsSoundRecord (known t) t.objects) t.records x sound.records.each here in
      let same : own.object ≡ o = some_is own.object o (sym own.there ∙ ap (slice_get t.objects) number ∙ there) in
      each_holds (is_sound_reference (known t) x.values) (references_of (record { number = n; object = o }))
      (subst (λ (m : ℕ). list_all (is_sound_reference (known t) x.values) (references_of (record { number = m; object = o })) ≡ true) number
      (subst (λ (p : Object). list_all (is_sound_reference (known t) x.values) (references_of (record { number = object_number x.id; object = p })) ≡ true) same own.references))
      it has

-- ---- records that hold one that goes

module _ (t : Tenant) (sound : IsSound t) (rs : List Record) (gone : List (List ℕ)) (have : HaveIds rs gone) where
  -- what is found by the field with this number of an object, which refers to this one
  abbrev pub found_by : (object number target : ℕ) → List (List ℕ)
  found_by n k target = staying gone (flat_map (λ id. all_referring n k id t) (ids_of target gone))

  all_of : (n k : ℕ) (j : List ℕ) → all_referring n k j t ≡ record_ids (filter (refers_by k j) (records_of t n))
  unfolding all_referring
  all_of n k j = refl

  among : (i : List ℕ) → Has gone i → has_id rs i ≡ true
  among i h = have i ∙ has_among gone i h

  module _ (n k : ℕ) (o : Object) (there : slice_get t.objects n ≡ Some o) (target : ℕ) (f : Field) where
    abbrev pub reference : Reference
    reference = record { object = n; position = k + 1; field = f; target = target }

    abbrev referring : List ℕ → List (List ℕ)
    referring i = all_referring n k i t

    names_one : (x : Record) (j : List ℕ) → Has gone j → refers_by k j x ≡ true → refers_to_one_of rs reference x ≡ true
    names_one x j h e = by (ref_of (value_at x.values (k + 1))) e
      where
        by : (i : Option (List ℕ)) → in_case i false (bytes_eq j) ≡ true → in_case i false (has_id rs) ≡ true
        by None e = absurd cc
        by (Some i) e = ap (has_id rs) (sym ((bytes_eq-Decides j i).0 e)) ∙ among j h

    -- each that is found is of a record that holds one that goes
    pub found_holds : (i : List ℕ) → Has (found_by n k target) i → (x : Record) × Has t.records x × (i ≡ x.id) × (refers_into rs reference x ≡ true)
    found_holds i h =
        let (all, stays) = has_filter (λ (j : List ℕ). not (is_among gone j)) (flat_map referring (ids_of target gone)) i h in
        let (j, hj, hi) = flat_has referring (ids_of target gone) i all in
        let (goes, of_target) = has_filter (λ (j : List ℕ). object_number j == target) gone j hj in
        let (x, hx, same) = id_of_has (filter (refers_by k j) (records_of t n)) i (subst (λ (zs : List (List ℕ)). Has zs i) (all_of n k j) hi) in
        let (its, refers) = has_filter (refers_by k j) (records_of t n) x hx in
        let (here, of) = has_filter (is_of n) t.records x its in
        let stay : not (has_id rs x.id) ≡ true = ap not (have x.id ∙ ap (is_among gone) (sym same)) ∙ stays in
        (x, here, same, both (not (has_id rs x.id)) (is_of n x && refers_to_one_of rs reference x) stay (both (is_of n x) (refers_to_one_of rs reference x) of (names_one x j goes refers)))

    found_one : (x : Record) → Has t.records x → is_of n x ≡ true → not (has_id rs x.id) ≡ true → (m : Option (List ℕ)) → ref_of (value_at x.values (k + 1)) ≡ m
        → in_case m false (has_id rs) ≡ true → in_case m (not (is_master f.kind)) (item_of (known t) target) ≡ true → Has (found_by n k target) x.id
    found_one x here of stay None is names right = absurd cc
    found_one x here of stay (Some i) is names right =
        let goes = among_has gone i (sym (have i) ∙ names) in
        let hi = filter_has (λ (j : List ℕ). object_number j == target) gone i goes (and_right ((known t).item i) (object_number i == target) right) in
        let refers : refers_by k i x ≡ true = ap (λ (j : Option (List ℕ)). in_case j false (bytes_eq i)) is ∙ (bytes_eq-Decides i i).1 refl in
        let its = filter_has (is_of n) t.records x here of in
        let hx = has_id_of (filter (refers_by k i) (records_of t n)) x (filter_has (refers_by k i) (records_of t n) x its refers) in
        let all = has_flat referring (ids_of target gone) i x.id hi (subst (λ (zs : List (List ℕ)). Has zs x.id) (sym (all_of n k i)) hx) in
        filter_has (λ (j : List ℕ). not (is_among gone j)) (flat_map referring (ids_of target gone)) x.id all (sym (ap not (have x.id)) ∙ stay)

    -- each record that holds one that goes is found
    pub holds_found : Has (references_of (record { number = n; object = o })) reference → (x : Record) → Has t.records x → refers_into rs reference x ≡ true → Has (found_by n k target) x.id
    holds_found has x here e =
        let stay = and_left (not (has_id rs x.id)) (is_of n x && refers_to_one_of rs reference x) e in
        let rest = and_right (not (has_id rs x.id)) (is_of n x && refers_to_one_of rs reference x) e in
        let of = and_left (is_of n x) (refers_to_one_of rs reference x) rest in
        let names = and_right (is_of n x) (refers_to_one_of rs reference x) rest in
        found_one x here of stay (ref_of (value_at x.values (k + 1))) refl names (sound_reference t sound n k o there target f has x here of)

    -- some are found where some record holds one
    pub any_same : Has (references_of (record { number = n; object = o })) reference → list_any (refers_into rs reference) t.records ≡ is_any (found_by n k target)
    any_same has =
        same_bool (list_any (refers_into rs reference) t.records) (is_any (found_by n k target))
        (λ e. let (x, here, so) = any_has (refers_into rs reference) t.records e in any_from (found_by n k target) x.id (holds_found has x here so))
        (λ e. let (i, h) = one_of (found_by n k target) e in let (x, here, same, so) = found_holds i h in has_any (refers_into rs reference) t.records x here so)

  -- ---- by the fields of an object

  -- the rule that a reference restricts
  abbrev pub rule : Reference → Rule
  rule f = refuse_if (restricts f.field.kind && list_any (refers_into rs f) t.records) (DeleteFailed (name_at t f.object) f.field.name)

  module _ (org : ℕ) (q : OrgPlan) (n : ℕ) (o : Object) (there : slice_get t.objects n ≡ Some o) where
    abbrev pub its_layout : Layout
    its_layout = layout_of org q t (record { number = n; object = o })

    abbrev pub own : List Reference
    own = references_of (record { number = n; object = o })

    abbrev pub from_field : ℕ → List Field → List Reference
    from_field k fs = flat_map (reference_at n) (enumerate_from (k + 1) fs)

    abbrev pub AreOwn : List Reference → Type 0
    AreOwn refs = (g : Reference) → Has refs g → Has own g

    less : (k : ℕ) (f : Field) (fs : List Field) → AreOwn (from_field k (f ∷ fs)) → AreOwn (from_field (k + 1) fs)
    less k f fs sub g h = sub g (has_append (reference_at n (k + 1, f)) (from_field (k + 1) fs) g (inr h))

    first_own : (k : ℕ) (f : Field) (fs : List Field) (target : ℕ) → target_of f.kind ≡ Some target → AreOwn (from_field k (f ∷ fs)) → Has own (reference n k o there target f)
    first_own k f fs target is sub =
        let it : Reference = reference n k o there target f in
        sub it (has_append (reference_at n (k + 1, f)) (from_field (k + 1) fs) it
        (inl (subst (λ (m : Option ℕ). Has (in_case m [] (λ target. record { object = n; position = k + 1; field = f; target = target } ∷ [])) it) (sym is) (inl refl))))

    one_rule : (k : ℕ) (f : Field) (target : ℕ) → target_of f.kind ≡ Some target → Has own (reference n k o there target f)
        → rule (reference n k o there target f) ≡ restricted_at its_layout k (place_of q n (k, f)) gone t
    one_rule k f target is has =
        ap (λ (b : Bool). refuse_if (restricts f.kind && b) (DeleteFailed (name_at t n) f.name)) (any_same n k o there target f has)
        ∙ ap (λ (m : Option ℕ). refuse_if (restricts f.kind && is_any (in_case m [] (λ object. found_by n k object))) (DeleteFailed (name_at t n) f.name)) (sym is)
        ∙ ap (λ (p : Option Object). refuse_if (restricts f.kind && is_any (in_case (target_of f.kind) [] (λ object. found_by n k object))) (DeleteFailed (in_case p [] (λ o. o.name)) f.name)) there

    -- what is found by a field, and what is found by those after it
    abbrev more_rules : ℕ → List Field → List Rule
    more_rules k fs = map (λ (p : ℕ × FieldPlace). restricted_at its_layout p.0 p.1 gone t) (enumerate_from (k + 1) (map (place_of q n) (enumerate_from (k + 1) fs)))

    abbrev these : ℕ → Field → List (List ℕ)
    these k f = cleared_at its_layout k (place_of q n (k, f)) gone t

    abbrev those : ℕ → List Field → List (List ℕ)
    those k fs = cleared_from its_layout (k + 1) (map (place_of q n) (enumerate_from (k + 1) fs)) gone t

    pub fields_rule : (k : ℕ) (fs : List Field) → AreOwn (from_field k fs) → first_of rule (from_field k fs) ≡ restricted_from its_layout k (map (place_of q n) (enumerate_from k fs)) gone t
    fields_rule k [] sub = refl
    fields_rule k (f ∷ fs) sub = by (target_of f.kind) refl (fields_rule (k + 1) fs (less k f fs sub))
      where
        by : (m : Option ℕ) → target_of f.kind ≡ m → first_of rule (from_field (k + 1) fs) ≡ first_refusal (more_rules k fs)
            → first_of rule (in_case m [] (λ target. record { object = n; position = k + 1; field = f; target = target } ∷ []) ++ from_field (k + 1) fs)
            ≡ first_refusal (restricted_at its_layout k (place_of q n (k, f)) gone t ∷ more_rules k fs)
        by None is more =
            more ∙ ap (λ (b : Bool). first_refusal (refuse_if (b && is_any (in_case (target_of f.kind) [] (λ object. found_by n k object))) (DeleteFailed o.name f.name) ∷ more_rules k fs)) (sym (no_target f.kind is))
        by (Some target) is more =
            rule_more (rule (reference n k o there target f)) (map rule (from_field (k + 1) fs)) (more_rules k fs) more
            ∙ ap (λ (r : Rule). first_refusal (r ∷ more_rules k fs)) (one_rule k f target is (first_own k f fs target is sub))

    -- a record that loses a lookup, and the lookup
    pub record Loses (i : List ℕ) : Type 0 where
      pub lookup : Reference
      pub its : Has (references_of (record { number = n; object = o })) lookup
      pub clears : is_cleared lookup.field.kind ≡ true
      pub it : Record
      pub here : Has t.records it
      pub same : i ≡ it.id
      pub holds : refers_into rs lookup it ≡ true

    pub cleared_loses : (k : ℕ) (fs : List Field) → AreOwn (from_field k fs) → (i : List ℕ) → Has (cleared_from its_layout k (map (place_of q n) (enumerate_from k fs)) gone t) i → Loses i
    cleared_loses k [] sub i h = absurd h
    cleared_loses k (f ∷ fs) sub i h =
        by (append_has (these k f) (those k fs) i h) (cleared_loses (k + 1) fs (less k f fs sub) i)
      where
        at : (b : Bool) → is_cleared f.kind ≡ b → (m : Option ℕ) → target_of f.kind ≡ m → Has (if b then in_case m [] (λ object. found_by n k object) else []) i → Loses i
        at false clears m is h = absurd h
        at true clears None is h = absurd h
        at true clears (Some target) is h =
            let (x, here, same, holds) = found_holds n k o there target f i h in
            record { lookup = reference n k o there target f; its = first_own k f fs target is sub; clears = clears; it = x; here = here; same = same; holds = holds }

        by : Has (these k f) i ⊎ Has (those k fs) i → (Has (those k fs) i → Loses i) → Loses i
        by (inl one) later = at (is_cleared f.kind) refl (target_of f.kind) refl one
        by (inr more) later = later more

    pub loses_cleared : (k : ℕ) (fs : List Field) → AreOwn (from_field k fs) → (g : Reference) → Has (from_field k fs) g → is_cleared g.field.kind ≡ true
        → (x : Record) → Has t.records x → refers_into rs g x ≡ true → Has (cleared_from its_layout k (map (place_of q n) (enumerate_from k fs)) gone t) x.id
    loses_cleared k [] sub g h clears x here holds = absurd h
    loses_cleared k (f ∷ fs) sub g h clears x here holds =
        by (append_has (reference_at n (k + 1, f)) (from_field (k + 1) fs) g h) (λ more. loses_cleared (k + 1) fs (less k f fs sub) g more clears x here holds)
      where
        at : (m : Option ℕ) → target_of f.kind ≡ m → Has (in_case m [] (λ target. record { object = n; position = k + 1; field = f; target = target } ∷ [])) g → Has (these k f) x.id
        at None is h = absurd h
        at (Some target) is (inr h) = absurd h
        at (Some target) is (inl e) =
            let clears : is_cleared f.kind ≡ true = subst (λ (y : Reference). is_cleared y.field.kind ≡ true) e clears in
            let found = holds_found n k o there target f (first_own k f fs target is sub) x here (subst (λ (y : Reference). refers_into rs y x ≡ true) e holds) in
            subst (λ (b : Bool). Has (if b then in_case (target_of f.kind) [] (λ object. found_by n k object) else []) x.id) (sym clears)
            (subst (λ (m : Option ℕ). Has (in_case m [] (λ object. found_by n k object)) x.id) (sym is) found)

        by : Has (reference_at n (k + 1, f)) g ⊎ Has (from_field (k + 1) fs) g → (Has (from_field (k + 1) fs) g → Has (those k fs) x.id) → Has (these k f ++ those k fs) x.id
        by (inl one) later = has_append (these k f) (those k fs) x.id (inl (at (target_of f.kind) refl one))
        by (inr more) later = has_append (these k f) (those k fs) x.id (inr (later more))
