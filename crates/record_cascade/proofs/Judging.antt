-- What is judged by layouts is what the model's rules say, what is cleared is what loses a lookup, and what goes has its ids.
use Rattle.std.proofs.Common.{◌≡◌, ℕ, zero, suc, ◌+◌, ◌≤◌, ◌<◌, Bool, true, false, cond, ◌&&◌, List, [], ◌∷◌, length, map, Some, None, refl, sym, ap, subst, ◌∙◌, inl, inr, arith, bytes_eq, lt-ltb as over, le-ltb as within}
use Rattle.std.specs.Prelude.{◌≢◌, ◌⊎◌, Err, nat_lt, slice_get}
use Rattle.std.specs.Cmp.Lexicographic.{slice_cmp}
use Rattle.std.specs.List.{enumerate_from, filter, flat_map}
use Rattle.std.specs.Ordering.{eq_by_cmp, nat_cmp}
use Rattle.std.proofs.lemmas.Bool.{and_from as both}
use Rattle.std.proofs.lemmas.Cmp.{eq_by_cmp_equiv, nat_list_cmp_total}
use Rattle.std.proofs.lemmas.List.{length-map}
use Rattle.std.proofs.lemmas.Map.Keys.{IsDistinct-from_sorted}
use Rattle.std.proofs.lemmas.Map.Made.{length-le_from_is_member}
use Rattle.std.proofs.lemmas.Slice.Eq.{bytes_eq-Decides}
use Rattle.base_lemmas.proofs.Bools.{and_first as and_left, and_second as and_right, by_answer as pick, same_both_ways as same_bool}
use Rattle.std.proofs.lemmas.Option.{same_Some as some_is}
use Rattle.store_kv.specs.Tables.{Tables}
use Rattle.store_rows.specs.declared.fail.StoreFail.{StoreFail}
use Rattle.store_rows.specs.declared.fail.StoreFail.TheVariants.{Damaged, Keeper, Memory}
use Rattle.model.specs.declared.record.Record.{Record}
use Rattle.model.specs.declared.refusal.Refusal.{Refusal}
use Rattle.model.specs.declared.refusal.Refusal.TheVariants.{CascadeTooLarge}
use Rattle.model.specs.Cases.{in_case}
use Rattle.model.specs.Deletes.{and_details, cascade, details_of, has_id, is_cleared, loses_lookup, refers_into, refers_to_one_of, restricted_by, too_many}
use Rattle.model.specs.Membership.{Has}
use Rattle.model.specs.Objects.{Numbered, numbered, object_number, record_at}
use Rattle.model.specs.Relationships.{Reference, master_of_object, references, references_of}
use Rattle.model.specs.Rules.{Rule, first_of, first_refusal, refuse_if}
use Rattle.model.specs.Sound.{IsSound}
use Rattle.model.specs.Tenant.{Object, Tenant}
use Rattle.model.specs.World.{having_id}
use Rattle.store_abstraction.specs.declared.fail.EditFail.{EditFail}
use Rattle.store_abstraction.specs.declared.fail.EditFail.TheVariants.{Refused, Store}
use Rattle.store_abstraction.specs.declared.layout.Layout.{Layout}
use Rattle.store_abstraction.specs.Layouts.{layout_of, own_layouts}
use Rattle.store_abstraction.specs.Local.{StandsIn}
use Rattle.store_abstraction.specs.Plan.{OrgPlan}
use Rattle.record_read.proofs.Rising.{filter_has, has_filter, rise_filter}
use Rattle.record_cascade.specs.Deletion.{DeletesWith, cleared_ids, deletion_rules, gone_ids}
use Rattle.record_cascade.specs.inner.Holding.{HaveIds, Judges, cleared_in, cleared_of, restricted_in, restricted_of}
use Rattle.record_cascade.specs.inner.Masters.{FindsBy, IsInOrder, is_among}
use Rattle.record_cascade.proofs.Among.{any_has, among_has, append_has, flat_has, has_among, has_any, has_flat, has_id_of, id_of_has, ids_sorted, record_ids, same_sorted}
use Rattle.record_cascade.proofs.Holders.{Loses, cleared_loses, fields_rule, loses_cleared, rule, rules_more}
use Rattle.record_cascade.proofs.Objects.{all_is, has_made, layouts_are, made_has}

-- ---- tests

-- ---- objects with their numbers

abbrev from : ℕ → List Object → List Numbered
from k os = map (λ (o : ℕ × Object). record { number = o.0; object = o.1 }) (enumerate_from k os)

has_numbered : (k i : ℕ) (os : List Object) (n : ℕ) (o : Object) → k + i ≡ n → slice_get os i ≡ Some o → Has (from k os) (record { number = n; object = o })
has_numbered k i [] n o e at = absurd cc
has_numbered k zero (x ∷ os) n o e at =
    let same : k ≡ n = omega (arith, e) in
    let is : x ≡ o = cc in
    inl (ap (λ (m : ℕ). record { number = m; object = o }) (sym same) ∙ ap (λ (y : Object). record { number = k; object = y }) (sym is))
has_numbered k (suc i) (x ∷ os) n o e at = inr (has_numbered (k + 1) i os n o (omega (arith, e)) at)

numbered_has : (k : ℕ) (os : List Object) (on : Numbered) → Has (from k os) on → (i : ℕ) × (o : Object) × (slice_get os i ≡ Some o) × (on ≡ record { number = k + i; object = o })
numbered_has k [] on h = absurd h
numbered_has k (x ∷ os) on (inl e) = let same : k ≡ k + 0 = omega arith in (0, x, refl, e ∙ ap (λ (m : ℕ). record { number = m; object = x }) same)
numbered_has k (x ∷ os) on (inr h) =
    let (i, o, at, e) = numbered_has (k + 1) os on h in
    let same : k + 1 + i ≡ k + suc i = omega arith in
    (suc i, o, at, e ∙ ap (λ (m : ℕ). record { number = m; object = o }) same)

module _ (org : ℕ) (q : OrgPlan) (t : Tenant) (sound : IsSound t) (layouts : List Layout) (are : own_layouts org q (Some t) ≡ layouts) (rs : List Record) (gone : List (List ℕ)) (have : HaveIds rs gone) where
  abbrev made : Numbered → Layout
  made on = layout_of org q t on

  listed_in : layouts ≡ map made (numbered t.objects)
  listed_in = sym are ∙ all_is org q t

  -- ---- DELETE_FAILED

  objects_rule : (k : ℕ) (os : List Object) → ((i : ℕ) (o : Object) → slice_get os i ≡ Some o → slice_get t.objects (k + i) ≡ Some o)
      → first_of (rule t sound rs gone have) (flat_map references_of (from k os)) ≡ restricted_of (map made (from k os)) gone t
  objects_rule k [] h = refl
  objects_rule k (o ∷ os) h =
      let here : slice_get t.objects k ≡ Some o = subst (λ (m : ℕ). slice_get t.objects m ≡ Some o) (omega arith) (h 0 o refl) in
      let rest = map (restricted_in gone t) (map made (from (k + 1) os)) in
      let more = objects_rule (k + 1) os (λ i x e. subst (λ (m : ℕ). slice_get t.objects m ≡ Some x) (omega arith) (h (suc i) x e)) in
      rules_more (rule t sound rs gone have) (references_of (record { number = k; object = o })) (flat_map references_of (from (k + 1) os)) rest more
      ∙ ap (λ (r : Rule). first_refusal (r ∷ rest)) (fields_rule t sound rs gone have org q k o here 0 o.fields (λ g x. x))

  pub restricted_is : restricted_of layouts gone t ≡ restricted_by t rs
  restricted_is =
      ap (λ (ls : List Layout). restricted_of ls gone t) listed_in
      ∙ sym (objects_rule 0 t.objects (λ i o h. let same : i ≡ 0 + i = omega arith in subst (λ (m : ℕ). slice_get t.objects m ≡ Some o) same h))

  pub refused_is : (x : Refusal) → Some x ≡ restricted_of layouts gone t → Some x ≡ first_refusal (deletion_rules t rs)
  refused_is x e = ap (λ (r : Rule). first_refusal (r ∷ too_many t rs ∷ [])) (e ∙ restricted_is)

  -- ---- CASCADE_TOO_LARGE

  counted : length (cleared_ids t rs) ≡ length (filter (loses_lookup t rs) t.records)
  counted = length-map (filter (loses_lookup t rs) t.records) (λ r. r.id)

  by_count : None ≡ restricted_of layouts gone t → (b : Bool) → nat_lt 1000 (length rs + length (filter (loses_lookup t rs) t.records)) ≡ b
      → first_refusal (None ∷ refuse_if b CascadeTooLarge ∷ []) ≡ first_refusal (deletion_rules t rs)
  by_count none b is =
      ap (λ (b : Bool). first_refusal (None ∷ refuse_if b CascadeTooLarge ∷ [])) (sym is)
      ∙ ap (λ (r : Rule). first_refusal (r ∷ too_many t rs ∷ [])) (none ∙ restricted_is)

  pub over_is : None ≡ restricted_of layouts gone t → 1000 < length rs + length (cleared_ids t rs) → Some CascadeTooLarge ≡ first_refusal (deletion_rules t rs)
  over_is none more = by_count none true (over 1000 (length rs + length (filter (loses_lookup t rs) t.records)) (omega (arith, counted, more)))

  pub within_is : None ≡ restricted_of layouts gone t → length rs + length (cleared_ids t rs) ≤ 1000 → None ≡ first_refusal (deletion_rules t rs)
  within_is none few = by_count none false (within 1000 (length rs + length (filter (loses_lookup t rs) t.records)) (omega (arith, counted, few)))

  -- ---- what loses a lookup

  abbrev loses : Record → Reference → Bool
  loses x f = is_cleared f.field.kind && refers_into rs f x

  onward : (i : List ℕ) → Has (cleared_of layouts gone t) i → Has (cleared_ids t rs) i
  onward i h =
      let (l, hl, hi) = flat_has (cleared_in gone t) layouts i h in
      let (n, o, there, is) = made_has org q t 0 t.objects l (subst (λ (ls : List Layout). Has ls l) listed_in hl) in
      let same : 0 + n ≡ n = omega arith in
      let at : l ≡ made (record { number = n; object = o }) = is ∙ ap (λ (m : ℕ). made (record { number = m; object = o })) same in
      let lost : Loses t sound rs gone have org q n o there i = cleared_loses t sound rs gone have org q n o there 0 o.fields (λ g x. x) i (subst (λ (k : Layout). Has (cleared_in gone t k) i) at hi) in
      let among = has_flat references_of (numbered t.objects) (record { number = n; object = o }) lost.lookup (has_numbered 0 n t.objects n o (omega arith) there) lost.its in
      let so : loses_lookup t rs lost.it ≡ true = has_any (loses lost.it) (references t.objects) lost.lookup among (both (is_cleared lost.lookup.field.kind) (refers_into rs lost.lookup lost.it) lost.clears lost.holds) in
      subst (λ (z : List ℕ). Has (cleared_ids t rs) z) (sym lost.same) (has_id_of (filter (loses_lookup t rs) t.records) lost.it (filter_has (loses_lookup t rs) t.records lost.it lost.here so))

  backward : (i : List ℕ) → Has (cleared_ids t rs) i → Has (cleared_of layouts gone t) i
  backward i h =
      let (x, hx, same) = id_of_has (filter (loses_lookup t rs) t.records) i h in
      let (here, so) = has_filter (loses_lookup t rs) t.records x hx in
      let (f, among, lost) = any_has (loses x) (references t.objects) so in
      let (on, hon, own) = flat_has references_of (numbered t.objects) f among in
      let (n, o, there, is) = numbered_has 0 t.objects on hon in
      let zero_less : 0 + n ≡ n = omega arith in
      let at : on ≡ record { number = n; object = o } = is ∙ ap (λ (m : ℕ). record { number = m; object = o }) zero_less in
      let clears = and_left (is_cleared f.field.kind) (refers_into rs f x) lost in
      let holds = and_right (is_cleared f.field.kind) (refers_into rs f x) lost in
      let found = loses_cleared t sound rs gone have org q n o there 0 o.fields (λ g x. x) f (subst (λ (y : Numbered). Has (references_of y) f) at own) clears x here holds in
      subst (λ (z : List ℕ). Has (cleared_of layouts gone t) z) (sym same)
      (has_flat (cleared_in gone t) layouts (made (record { number = n; object = o })) x.id
      (subst (λ (ls : List Layout). Has ls (made (record { number = n; object = o }))) (sym listed_in) (has_made org q t 0 n t.objects n o (omega arith) there)) found)

  -- each of those that are found once, in their order
  pub cleared_found : (all x : List (List ℕ)) → all ≡ cleared_of layouts gone t → IsInOrder all x → x ≡ cleared_ids t rs
  cleared_found all x is order =
      same_sorted x (cleared_ids t rs) order.1 (ids_sorted (filter (loses_lookup t rs) t.records) (rise_filter (loses_lookup t rs) t.records sound.records.rise))
      (λ i h. onward i (subst (λ (zs : List (List ℕ)). Has zs i) is (among_has all i (sym (order.0 i) ∙ has_among x i h))))
      (λ i h. among_has x i (order.0 i ∙ has_among all i (subst (λ (zs : List (List ℕ)). Has zs i) (sym is) (backward i h))))

-- ---- failures

-- what isn't found is never damaged
pub undamaged : {X : Type 0} (value : Tenant → X) (org : ℕ) (layouts : List Layout) (m : Tables) (e : StoreFail) → FindsBy {X = X} org layouts value m (Err e)
    → (q : OrgPlan) (t : Tenant) → StandsIn org q m (Some t) → own_layouts org q (Some t) ≡ layouts → e ≢ Damaged
undamaged value org layouts m Damaged h q t s are = λ e. h q t s (layouts_are org q t layouts are)
undamaged value org layouts m Keeper h q t s are = λ e. cc
undamaged value org layouts m Memory h q t s are = λ e. cc

-- why the deletion failed is why it is judged so
pub failed : (t : Tenant) (r : Record) (e : EditFail) → Judges t (cascade t r) (Err e) → DeletesWith t r (Err e)
failed t r (Refused x) h = h
failed t r (Store e) h = h

-- ---- what goes

-- records have their own ids
have_own : (rs : List Record) (i : List ℕ) → has_id rs i ≡ is_among (record_ids rs) i
have_own rs i =
    same_bool (has_id rs i) (is_among (record_ids rs) i)
    (λ e. let (x, h, so) = any_has (λ (x : Record). bytes_eq x.id i) rs e in
    has_among (record_ids rs) i (subst (λ (z : List ℕ). Has (record_ids rs) z) ((bytes_eq-Decides x.id i).0 so) (has_id_of rs x h)))
    (λ e. let (x, h, same) = id_of_has rs i (among_has (record_ids rs) i e) in
    has_any (λ (x : Record). bytes_eq x.id i) rs x h ((bytes_eq-Decides x.id i).1 (sym same)))

-- each once and in their order, they have the same
pub have_ordered : (rs : List Record) (all x : List (List ℕ)) → all ≡ record_ids rs → IsInOrder all x → HaveIds rs x
have_ordered rs all x is order = λ i. have_own rs i ∙ ap (λ (is : List (List ℕ)). is_among is i) (sym is) ∙ sym (order.0 i)

-- as many records as ids
pub all_counted : (rs : List Record) (all : List (List ℕ)) (count : ℕ) → all ≡ record_ids rs → count ≡ length all → length rs ≡ count
all_counted rs all count is e = sym (e ∙ ap (λ (is : List (List ℕ)). length is) is ∙ length-map rs (λ r. r.id))

-- there are no more of them
pub no_more : (all x : List (List ℕ)) → IsInOrder all x → length x ≤ length all
no_more all x order =
    length-le_from_is_member {eq = eq_by_cmp (slice_cmp nat_cmp)} (eq_by_cmp_equiv nat_list_cmp_total) x all (IsDistinct-from_sorted (slice_cmp nat_cmp) x order.1) (λ i e. sym (order.0 i) ∙ e)

-- the record with this id is there
pub one_there : (t : Tenant) (r : Record) → record_at t r.id ≡ Some r → (x : Record) → Has (r ∷ []) x → Has t.records x
one_there t r e x (inr h) = absurd h
one_there t r e x (inl same) = subst (λ (y : Record). Has t.records y) (sym same) (found_of_all t.records e)
  where
    found_of_all : (rs : List Record) → having_id (λ r. r.id) rs r.id ≡ Some r → Has rs r
    found_of_all [] e = absurd cc
    found_of_all (y ∷ rs) e =
        pick (bytes_eq r.id y.id) (λ b. cond b (Some y) (having_id (λ r. r.id) rs r.id) ≡ Some r → Has (y ∷ rs) r)
        (λ _ some. inl (sym (some_is y r some)))
        (λ _ more. inr (found_of_all rs more))
        e

abbrev is_detail : Tenant → List Record → Record → Bool
is_detail t rs r = in_case (master_of_object t.objects (object_number r.id)) false (λ f. refers_to_one_of rs f r)

-- what goes with records that are there is there
details_there : (t : Tenant) (n : ℕ) (rs : List Record) → ((x : Record) → Has rs x → Has t.records x) → (x : Record) → Has (and_details n t rs) x → Has t.records x
details_there t zero rs there x h = there x h
details_there t (suc n) rs there x h =
    by (append_has rs (and_details n t (details_of t rs)) x h) (details_there t n (details_of t rs) (λ y d. (has_filter (is_detail t rs) t.records y d).0) x)
  where
    by : Has rs x ⊎ Has (and_details n t (details_of t rs)) x → (Has (and_details n t (details_of t rs)) x → Has t.records x) → Has t.records x
    by (inl first) later = there x first
    by (inr more) later = later more

-- the ids of what goes, each once and in their order
module _ (t : Tenant) (sound : IsSound t) (n : ℕ) (rs : List Record) (there : (x : Record) → Has rs x → Has t.records x) where
  abbrev all : List Record
  all = and_details n t rs

  abbrev goes : Record → Bool
  goes r = has_id all r.id

  gone_onward : (x : List (List ℕ)) → IsInOrder (record_ids all) x → (i : List ℕ) → Has x i → Has (gone_ids t all) i
  gone_onward x order i h =
      let (y, hy, same) = id_of_has all i (among_has (record_ids all) i (sym (order.0 i) ∙ has_among x i h)) in
      let so : goes y ≡ true = have_own all y.id ∙ has_among (record_ids all) y.id (has_id_of all y hy) in
      subst (λ (z : List ℕ). Has (gone_ids t all) z) (sym same) (has_id_of (filter goes t.records) y (filter_has goes t.records y (details_there t n rs there y hy) so))

  gone_backward : (x : List (List ℕ)) → IsInOrder (record_ids all) x → (i : List ℕ) → Has (gone_ids t all) i → Has x i
  gone_backward x order i h =
      let (y, hy, same) = id_of_has (filter goes t.records) i h in
      let (here, so) = has_filter goes t.records y hy in
      subst (λ (z : List ℕ). Has x z) (sym same) (among_has x y.id (order.0 y.id ∙ sym (have_own all y.id) ∙ so))

  pub gone_found : (x : List (List ℕ)) → IsInOrder (record_ids all) x → x ≡ gone_ids t all
  gone_found x order =
      same_sorted x (gone_ids t all) order.1 (ids_sorted (filter goes t.records) (rise_filter goes t.records sound.records.rise)) (gone_onward x order) (gone_backward x order)
