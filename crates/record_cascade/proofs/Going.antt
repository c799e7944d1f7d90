-- The records whose masters are among some are those that the model's details are.
use Rattle.std.proofs.Common.{◌≡◌, ℕ, zero, suc, ◌+◌, ◌-◌, true, false, not, eqb, List, [], ◌∷◌, ◌++◌, map, Option, Some, None, refl, sym, ap, subst, ◌∙◌, arith, bytes_eq}
use Rattle.std.specs.Prelude.{◌==◌, Err, slice_get}
use Rattle.std.specs.Cmp.Lexicographic.{slice_cmp}
use Rattle.std.specs.List.{filter, flat_map}
use Rattle.std.specs.List.Sorted.{IsStrictlySortedBy}
use Rattle.std.specs.Ordering.{nat_cmp}
use Rattle.std.proofs.lemmas.Bool.{eqb-true}
use Rattle.std.proofs.lemmas.Slice.Eq.{bytes_eq-Decides}
use Rattle.base_lemmas.proofs.Bools.{and_second as and_right}
use Rattle.base_lemmas.proofs.Numbers.{eqb-self as eqb_same}
use Rattle.formula.specs.Meaning.{value_at}
use Rattle.store_kv.specs.Tables.{Tables}
use Rattle.store_rows.specs.declared.fail.StoreFail.{StoreFail}
use Rattle.store_rows.specs.declared.fail.StoreFail.TheVariants.{Keeper, Memory, Damaged}
use Rattle.model.specs.declared.record.Record.{Record}
use Rattle.model.specs.Cases.{in_case}
use Rattle.model.specs.Deletes.{and_details, details_of, has_id}
use Rattle.model.specs.Fields.{is_master, ref_of}
use Rattle.model.specs.Known.{item_of, known}
use Rattle.model.specs.Membership.{Has}
use Rattle.model.specs.Objects.{is_of, numbered, object_number, records_of}
use Rattle.model.specs.Relationships.{references_of}
use Rattle.model.specs.Sound.{IsSound}
use Rattle.model.specs.Tenant.{Field, Object, Tenant}
use Rattle.store_abstraction.specs.declared.layout.Layout.{Layout}
use Rattle.store_abstraction.specs.Layouts.{layout_of, own_layouts}
use Rattle.store_abstraction.specs.Plan.{OrgPlan}
use Rattle.record_read.proofs.Lists.{of_each}
use Rattle.record_read.proofs.Rising.{filter_has, has_filter, rise_filter}
use Rattle.record_references.specs.Referring.{all_referring, refers_by}
use Rattle.record_cascade.specs.Cascade.{FindsWith}
use Rattle.record_cascade.specs.inner.Masters.{FindsBy, details_in, ids_of, is_among, master_from, nameable, target_at}
use Rattle.record_cascade.proofs.Among.{has_any, any_has, has_flat, flat_has, has_id_of, id_of_has, has_among, among_has, same_sorted, ids_sorted, record_ids}
use Rattle.record_cascade.proofs.Holders.{sound_reference}
use Rattle.record_cascade.proofs.Objects.{named, is_detail, detail_is, all_is, first_master, has_made, made_has, layouts_are}

-- those that a field can name are of these
named_among : (ids : List (List ℕ)) (j : List ℕ) (m : Option ℕ) → Has (in_case m [] (λ object. ids_of object ids)) j → Has ids j
named_among ids j None h = absurd h
named_among ids j (Some object) h = (has_filter (λ (j : List ℕ). object_number j == object) ids j h).0

module _ (org : ℕ) (q : OrgPlan) (t : Tenant) (sound : IsSound t) (layouts : List Layout) (are : own_layouts org q (Some t) ≡ layouts) (rs : List Record) where
  abbrev ids : List (List ℕ)
  ids = record_ids rs

  listed_in : layouts ≡ map (layout_of org q t) (numbered t.objects)
  listed_in = sym are ∙ all_is org q t

  -- a value that refers to one of these
  refers_one : (x : Record) (k : ℕ) (j : List ℕ) → Has ids j → refers_by k j x ≡ true → named org q t rs x (k + 1) ≡ true
  refers_one x k j h e = by (ref_of (value_at x.values (k + 1))) e
    where
      by : (o : Option (List ℕ)) → in_case o false (bytes_eq j) ≡ true → in_case o false (has_id rs) ≡ true
      by None e = absurd cc
      by (Some i) e =
          let (r, has, is) = id_of_has rs j h in
          has_any (λ (r : Record). bytes_eq r.id i) rs r has (subst (λ (z : List ℕ). bytes_eq z i ≡ true) is e)

  one_refers : (x : Record) (k : ℕ) → named org q t rs x (k + 1) ≡ true → (j : List ℕ) × Has ids j × (refers_by k j x ≡ true)
  one_refers x k e = by (ref_of (value_at x.values (k + 1))) e
    where
      by : (o : Option (List ℕ)) → in_case o false (has_id rs) ≡ true → (j : List ℕ) × Has ids j × (in_case o false (bytes_eq j) ≡ true)
      by None e = absurd cc
      by (Some i) e = let (r, has, so) = any_has (λ (r : Record). bytes_eq r.id i) rs e in (r.id, has_id_of rs r has, so)

  all_of : (n k : ℕ) (j : List ℕ) → all_referring n k j t ≡ record_ids (filter (refers_by k j) (records_of t n))
  unfolding all_referring
  all_of n k j = refl

  -- what a reference names is a record of its target
  names_target : (n k : ℕ) (o : Object) → slice_get t.objects n ≡ Some o → (target : ℕ) (f : Field)
      → Has (references_of (record { number = n; object = o })) (record { object = n; position = k + 1; field = f; target = target })
      → (x : Record) → Has t.records x → is_of n x ≡ true → (j : List ℕ) → refers_by k j x ≡ true → (object_number j == target) ≡ true
  names_target n k o there target f own x here of j refers =
      by (ref_of (value_at x.values (k + 1))) refers (sound_reference t sound n k o there target f own x here of)
    where
      by : (m : Option (List ℕ)) → in_case m false (bytes_eq j) ≡ true → in_case m (not (is_master f.kind)) (item_of (known t) target) ≡ true → (object_number j == target) ≡ true
      by None e right = absurd cc
      by (Some i) e right = ap (λ (z : List ℕ). object_number z == target) ((bytes_eq-Decides j i).0 e) ∙ and_right ((known t).item i) (object_number i == target) right

  -- by the layout of an object
  module _ (n : ℕ) (o : Object) (there : slice_get t.objects n ≡ Some o) where
    abbrev l : Layout
    l = layout_of org q t (record { number = n; object = o })

    onward_from : (i : List ℕ) (m : Option ℕ) → master_from 0 l.fields ≡ m → Has (in_case m [] (λ k. flat_map (λ j. all_referring n k j t) (nameable l.fields k ids))) i → Has (record_ids (details_of t rs)) i
    onward_from i None is h = absurd h
    onward_from i (Some k) is h =
        let (j, named_j, hi) = flat_has (λ (j : List ℕ). all_referring n k j t) (nameable l.fields k ids) i h in
        let hj = named_among ids j (target_at l.fields k) named_j in
        let (x, hx, same) = id_of_has (filter (refers_by k j) (records_of t n)) i (subst (λ (zs : List (List ℕ)). Has zs i) (all_of n k j) hi) in
        let (its, refers) = has_filter (refers_by k j) (records_of t n) x hx in
        let (here, of) = has_filter (is_of n) t.records x its in
        let tested = detail_is org q t rs x n o (eqb-true (object_number x.id) n of) there ∙ ap (λ (m : Option ℕ). in_case m false (λ k. named org q t rs x (k + 1))) is ∙ refers_one x k j hj refers in
        subst (λ (z : List ℕ). Has (record_ids (details_of t rs)) z) (sym same) (has_id_of (details_of t rs) x (filter_has (is_detail org q t rs) t.records x here tested))

    backward_from : (x : Record) → Has t.records x → object_number x.id ≡ n → (m : Option ℕ) → master_from 0 l.fields ≡ m → in_case m false (λ k. named org q t rs x (k + 1)) ≡ true
        → Has (in_case m [] (λ k. flat_map (λ j. all_referring n k j t) (nameable l.fields k ids))) x.id
    backward_from x here of None is e = absurd cc
    backward_from x here of (Some k) is e =
        let (j, hj, refers) = one_refers x k e in
        let master = first_master q n k o.fields is in
        let target = names_target n k o there master.target master.field master.own x here (ap (λ (m : ℕ). eqb m n) of ∙ eqb_same n) j refers in
        let named_j = subst (λ (m : Option ℕ). Has (in_case m [] (λ object. ids_of object ids)) j) (sym master.at) (filter_has (λ (j : List ℕ). object_number j == master.target) ids j hj target) in
        let its = filter_has (is_of n) t.records x here (ap (λ (m : ℕ). eqb m n) of ∙ eqb_same n) in
        has_flat (λ (j : List ℕ). all_referring n k j t) (nameable l.fields k ids) j x.id named_j
        (subst (λ (zs : List (List ℕ)). Has zs x.id) (sym (all_of n k j)) (has_id_of (filter (refers_by k j) (records_of t n)) x (filter_has (refers_by k j) (records_of t n) x its refers)))

  onward : (i : List ℕ) → Has (flat_map (λ l. details_in l ids t) layouts) i → Has (record_ids (details_of t rs)) i
  onward i h =
      let (l, hl, hi) = flat_has (λ (l : Layout). details_in l ids t) layouts i h in
      let (n, o, there, is) = made_has org q t 0 t.objects l (subst (λ (ls : List Layout). Has ls l) listed_in hl) in
      let zero_less : 0 + n ≡ n = omega arith in
      let at : l ≡ layout_of org q t (record { number = n; object = o }) = is ∙ ap (λ (m : ℕ). layout_of org q t (record { number = m; object = o })) zero_less in
      onward_from n o there i (master_from 0 (layout_of org q t (record { number = n; object = o })).fields) refl (subst (λ (k : Layout). Has (details_in k ids t) i) at hi)

  backward : (i : List ℕ) → Has (record_ids (details_of t rs)) i → Has (flat_map (λ l. details_in l ids t) layouts) i
  backward i h =
      let (x, hx, same) = id_of_has (details_of t rs) i h in
      let (here, tested) = has_filter (is_detail org q t rs) t.records x hx in
      let own = of_each _ t.records x sound.records.each here in
      let n = object_number x.id in
      let l = layout_of org q t (record { number = n; object = own.object }) in
      let found = backward_from n own.object own.there x here refl (master_from 0 l.fields) refl (sym (detail_is org q t rs x n own.object refl own.there) ∙ tested) in
      subst (λ (z : List ℕ). Has (flat_map (λ l. details_in l ids t) layouts) z) (sym same)
      (has_flat (λ (l : Layout). details_in l ids t) layouts l x.id
      (subst (λ (ls : List Layout). Has ls l) (sym listed_in) (has_made org q t 0 n t.objects n own.object (omega arith) own.there)) found)

  -- each of those that are found once, in their order
  pub details_found : (all x : List (List ℕ)) → all ≡ flat_map (λ l. details_in l ids t) layouts → ((i : List ℕ) → is_among x i ≡ is_among all i) × IsStrictlySortedBy (slice_cmp nat_cmp) x → x ≡ record_ids (details_of t rs)
  details_found all x is order =
      same_sorted x (record_ids (details_of t rs)) order.1 (ids_sorted (details_of t rs) (rise_filter (is_detail org q t rs) t.records sound.records.rise))
      (λ i h. onward i (subst (λ (zs : List (List ℕ)). Has zs i) is (among_has all i (sym (order.0 i) ∙ has_among x i h))))
      (λ i h. among_has x i (order.0 i ∙ has_among all i (subst (λ (zs : List (List ℕ)). Has zs i) (sym is) (backward i h))))

-- ---- failures

pub details_failed : {X : Type 0} (value : Tenant → X) (what : Tenant → List Record → List Record) (org : ℕ) (layouts : List Layout) (these : List (List ℕ)) (m : Tables) (e : StoreFail) → FindsBy {X = X} org layouts value m (Err e) → FindsWith org layouts these what m (Err e)
details_failed value what org layouts these m Damaged h = λ q t s are. h q t s (layouts_are org q t layouts are)
details_failed value what org layouts these m Keeper h = tt
details_failed value what org layouts these m Memory h = tt

-- ---- level by level

ids_append : (xs ys : List Record) → record_ids (xs ++ ys) ≡ record_ids xs ++ record_ids ys
ids_append [] ys = refl
ids_append (x ∷ xs) ys = ap (λ (is : List (List ℕ)). x.id ∷ is) (ids_append xs ys)

-- with one level more
pub level_more : (n : ℕ) (t : Tenant) (rs : List Record) → (n ≡ 0 → ⊥) → record_ids (and_details n t rs) ≡ record_ids rs ++ record_ids (and_details (n - 1) t (details_of t rs))
level_more zero t rs e = absurd (e refl)
level_more (suc n) t rs e =
    let same : n ≡ suc n - 1 = omega arith in
    ids_append rs (and_details n t (details_of t rs)) ∙ ap (λ (m : ℕ). record_ids rs ++ record_ids (and_details m t (details_of t rs))) same
