-- Children in their order.
use Rattle.std.proofs.Common.{◌≡◌, ℕ, Bool, true, false, cond, List, [], ◌∷◌, drop, map, Option, Some, None, refl, sym, ap, ◌∙◌, is_eq}
use Rattle.std.specs.List.{AllByRecursion, IsDistinct, filter}
use Rattle.std.specs.List.Sorted.{IsStrictlySortedBy}
use Rattle.std.specs.Ordering.{eq_by_cmp, is_lt, ordering_then}
use Rattle.std.specs.declared.cmp.Ordering.{Ordering}
use Rattle.std.specs.declared.cmp.Ordering.TheVariants.{Less, Equal, Greater}
use Rattle.std.proofs.lemmas.List.{drop-map, take-map}
use Rattle.std.proofs.lemmas.List.Kept.{IsStrictlySortedBy-filter}
use Rattle.query_plan.specs.declared.plan.ChildPlan.{ChildPlan}
use Rattle.query_plan.specs.declared.plan.Choice.{Choice}
use Rattle.query_plan.specs.declared.plan.SortKey.{SortKey}
use Rattle.query_plan.specs.Plans.{Far, by_keys, children_by, is_taken, parents_by, refers_by}
use Rattle.model.specs.declared.record.Record.{Record}
use Rattle.model.specs.Levels.{can_read, readable}
use Rattle.model.specs.Objects.{records_of}
use Rattle.model.specs.Ordered.{by_id, in_order, put_in}
use Rattle.model.specs.Paths.{Asked}
use Rattle.model.specs.Rows.{limited}
use Rattle.query_plan.specs.order.Ranks.{rank_by, rank_cmp}
use Rattle.query_exec.specs.Ranks.{ranked_cmp}
use Rattle.query_related.specs.inner.Referring.{those_referring}
use Rattle.query_related.specs.inner.Taken.{RankedChild, all_taken, kept_of, ranked_with}

-- ---- order through a function

module _ {X Y : Type 0} (f : X → Y) (big : Y → Y → Ordering) (small : X → X → Ordering) (same : (a b : X) → big (f a) (f b) ≡ small a b) where
  put_in_map : (x : X) (ys : List X) → put_in big (f x) (map f ys) ≡ map f (put_in small x ys)
  put_in_map x [] = refl
  put_in_map x (y ∷ ys) = ap (λ o. cond (is_lt o) (f x ∷ f y ∷ map f ys) (f y ∷ put_in big (f x) (map f ys))) (same x y) ∙ by (is_lt (small x y)) (put_in_map x ys)
    where
      by : (b : Bool) → put_in big (f x) (map f ys) ≡ map f (put_in small x ys) → cond b (f x ∷ f y ∷ map f ys) (f y ∷ put_in big (f x) (map f ys)) ≡ map f (cond b (x ∷ y ∷ ys) (y ∷ put_in small x ys))
      by true e = refl
      by false e = ap (λ l. f y ∷ l) e

  in_order_map : (xs : List X) → in_order big (map f xs) ≡ map f (in_order small xs)
  unfolding in_order
  in_order_map [] = refl
  in_order_map (x ∷ xs) = ap (put_in big (f x)) (in_order_map xs) ∙ put_in_map x (in_order small xs)

limited_map : {X Y : Type 0} (f : X → Y) (most : Option ℕ) (xs : List X) → limited most (map f xs) ≡ map f (limited most xs)
limited_map f None xs = refl
limited_map f (Some n) xs = take-map f n xs

map_map : {X Y Z : Type 0} (f : X → Y) (g : Y → Z) (xs : List X) → map g (map f xs) ≡ map (λ x. g (f x)) xs
map_map f g [] = refl
map_map f g (x ∷ xs) = ap (λ ys. g (f x) ∷ ys) (map_map f g xs)

-- ---- no ties

apart_then : (a : Ordering) (b : Ordering) → b ≡ Less → is_eq (ordering_then a b) ≡ false
apart_then Less b e = refl
apart_then Equal b e = ap is_eq e
apart_then Greater b e = refl

module _ (c : Choice) (far : Far) where
  abbrev row : Record → RankedChild
  row s = ranked_with c (far s) s

  apart_all : (r : Record) (rs : List Record) → AllByRecursion (λ s. by_id r s ≡ Less) rs → AllByRecursion (λ y. eq_by_cmp (ranked_cmp rank_cmp) (row r) y ≡ false) (map row rs)
  apart_all r [] all = tt
  apart_all r (s ∷ rs) all = (apart_then (rank_cmp (rank_by c.order (far r) r) (rank_by c.order (far s) s)) (by_id r s) all.0, apart_all r rs all.1)

  -- rows of records whose ids rise don't tie
  pub apart : (rs : List Record) → IsStrictlySortedBy by_id rs → IsDistinct (eq_by_cmp (ranked_cmp rank_cmp)) (map row rs)
  unfolding IsDistinct IsStrictlySortedBy
  apart [] up = tt
  apart (r ∷ rs) up = (apart_all r rs up.0, apart rs up.1)

-- ---- those that a subquery finds

-- the order of ranks is that of the keys
abbrev pub RanksOrder : Type 0
RanksOrder = (ks : List SortKey) (far : Far) (r s : Record) → ordering_then (rank_cmp (rank_by ks (far r) r) (rank_by ks (far s) s)) (by_id r s) ≡ by_keys ks far r s

module _ (order : RanksOrder) (a : Asked) (p : ChildPlan) (id : List ℕ) (rise : IsStrictlySortedBy by_id (records_of a.tenant p.step.object)) where
  abbrev those : List Record
  those = those_referring a p.step id

  those_rise : IsStrictlySortedBy by_id those
  unfolding readable
  those_rise =
      IsStrictlySortedBy-filter by_id (refers_by p.step.field id) (filter (can_read a.tenant a.user) (records_of a.tenant p.step.object))
      (IsStrictlySortedBy-filter by_id (can_read a.tenant a.user) (records_of a.tenant p.step.object) rise)

  pub differ : IsDistinct (eq_by_cmp (ranked_cmp rank_cmp)) (all_taken a p.choice those)
  differ = apart p.choice (parents_by a p.choice) (filter (is_taken a p.choice) those) (IsStrictlySortedBy-filter by_id (is_taken a p.choice) those those_rise)

  pub children_are : (r : Record) → r.id ≡ id
      → map kept_of (limited p.choice.most (drop p.choice.skip (in_order (ranked_cmp rank_cmp) (all_taken a p.choice those)))) ≡ children_by a r p
  children_are r same =
      let far = parents_by a p.choice in
      let f = row p.choice far in
      let taken = filter (is_taken a p.choice) those in
      let sorted = in_order (by_keys p.choice.order far) taken in
      ap (λ (xs : List RankedChild). map kept_of (limited p.choice.most (drop p.choice.skip xs))) (in_order_map f (ranked_cmp rank_cmp) (by_keys p.choice.order far) (order p.choice.order far) taken)
      ∙ ap (λ (xs : List RankedChild). map kept_of (limited p.choice.most xs)) (drop-map f p.choice.skip sorted)
      ∙ ap (map kept_of) (limited_map f p.choice.most (drop p.choice.skip sorted))
      ∙ map_map f kept_of (limited p.choice.most (drop p.choice.skip sorted))
      ∙ ap (λ (i : List ℕ). map (λ s. kept_of (f s)) (limited p.choice.most (drop p.choice.skip (in_order (by_keys p.choice.order far) (filter (is_taken a p.choice) (those_referring a p.step i)))))) (sym same)
