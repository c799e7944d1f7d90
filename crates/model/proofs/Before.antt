-- The order of rows is total, and ties at one id alone; so lists of records with different ids have one order.
use Rattle.std.proofs.Common.{◌≡◌, Bool, true, false, List, [], ◌∷◌, refl, sym, ◌∙◌, subst, true≢false, cond}
use Rattle.std.specs.declared.cmp.Ordering.{Ordering}
use Rattle.std.specs.declared.cmp.Ordering.TheVariants.{Less, Equal, Greater}
use Rattle.std.specs.Ordering.{is_eq, is_lt, eq_by_cmp, ordering_then}
use Rattle.std.specs.Cmp.{IsTotalOrder}
use Rattle.std.specs.List.{IsDistinct}
use Rattle.std.specs.List.Sorted.{IsPermutation, IsSorted, IsStrictlySortedBy}
use Rattle.std.specs.Str.{bytes_eq}
use Rattle.std.proofs.lemmas.Cmp.{back_total, nat_list_cmp_total, on_total, then_total}
use Rattle.std.specs.Cmp.{bool_cmp_total}
use Rattle.std.proofs.lemmas.List.Sorted.{IsPermutation-cons, IsPermutation-middle, IsPermutation-refl, IsPermutation-trans}
use Rattle.std.proofs.lemmas.Slice.Eq.{bytes_eq-Decides}
use Rattle.base_lemmas.proofs.Lists.{same_from_slice_cmp_equal as lists_equal, each_weaker as all_weaker}
use Rattle.base_value.specs.Values.{cmp}
use Rattle.soql.specs.declared.query.OrderKey.{OrderKey}
use Rattle.model.specs.declared.record.Record.{Record}
use Rattle.model.specs.Fields.{is_null}
use Rattle.model.specs.Ordered.{IdsDiffer, before, in_order, key_cmp, put_in, turned}
use Rattle.model.specs.Paths.{Asked, path_value}
use Rattle.model.proofs.Sorted.{NoTies, in_order_strict, sort_is}

-- ---- the order is total

turned_total : {X : Type 0} (R : X → X → Ordering) → IsTotalOrder R → (back : Bool) → IsTotalOrder (λ x y. turned back (R x y))
turned_total R o false = o
turned_total R o true = subst IsTotalOrder (λ i x y. o.antisymm y x i) (back_total o)

module _ (values : IsTotalOrder cmp) where
  key_total : (k : OrderKey) → IsTotalOrder (key_cmp k)
  key_total k =
      then_total (turned_total _ (on_total is_null (back_total bool_cmp_total)) k.nulls_last) (turned_total cmp values k.descending)

  pub before_total : (a : Asked) (ks : List OrderKey) → IsTotalOrder (before a ks)
  before_total a [] = on_total (λ (r : Record). r.id) nat_list_cmp_total
  before_total a (k ∷ ks) = then_total (on_total (λ (r : Record). path_value a r k.path.names) (key_total k)) (before_total a ks)

-- ---- and ties at one id alone

then_equal : (o p : Ordering) → ordering_then o p ≡ Equal → p ≡ Equal
then_equal Less p e = absurd cc
then_equal Equal p e = e
then_equal Greater p e = absurd cc

pub before_ties : (a : Asked) (ks : List OrderKey) (r s : Record) → before a ks r s ≡ Equal → r.id ≡ s.id
before_ties a [] r s e = lists_equal r.id s.id e
before_ties a (k ∷ ks) r s e =
    before_ties a ks r s (then_equal (key_cmp k (path_value a r k.path.names) (path_value a s k.path.names)) (before a ks r s) e)

module _ (a : Asked) (ks : List OrderKey) where
  apart : (r s : Record) → bytes_eq r.id s.id ≡ false → eq_by_cmp (before a ks) r s ≡ false
  apart r s other = by (before a ks r s) refl
    where
      by : (o : Ordering) → before a ks r s ≡ o → is_eq o ≡ false
      by Less e = refl
      by Equal e = absurd (true≢false (sym ((bytes_eq-Decides r.id s.id).1 (before_ties a ks r s e)) ∙ other))
      by Greater e = refl

  no_ties : (rs : List Record) → IdsDiffer rs → NoTies (before a ks) rs
  unfolding IsDistinct
  no_ties [] differ = tt
  no_ties (r ∷ rs) differ =
      (all_weaker (λ s. bytes_eq r.id s.id ≡ false) (λ s. eq_by_cmp (before a ks) r s ≡ false) (apart r) rs differ.0, no_ties rs differ.1)

-- ---- what is put in order

module _ {X : Type 0} (order : X → X → Ordering) where
  put_in_permutes : (x : X) (ys : List X) → IsPermutation (x ∷ ys) (put_in order x ys)
  put_in_permutes x [] = IsPermutation-refl (x ∷ [])
  put_in_permutes x (y ∷ ys) = by (is_lt (order x y)) (put_in_permutes x ys)
    where
      by : (b : Bool) → IsPermutation (x ∷ ys) (put_in order x ys)
          → IsPermutation (x ∷ y ∷ ys) (cond b (x ∷ y ∷ ys) (y ∷ put_in order x ys))
      by true rest = IsPermutation-refl (x ∷ y ∷ ys)
      by false rest =
          IsPermutation-trans (x ∷ y ∷ ys) (y ∷ x ∷ ys) (y ∷ put_in order x ys)
          (IsPermutation-middle (x ∷ []) y ys) (IsPermutation-cons y (x ∷ ys) (put_in order x ys) rest)

  in_order_permutes : (xs : List X) → IsPermutation xs (in_order order xs)
  unfolding in_order
  in_order_permutes [] = IsPermutation-refl []
  in_order_permutes (x ∷ xs) =
      IsPermutation-trans (x ∷ xs) (x ∷ in_order order xs) (put_in order x (in_order order xs))
      (IsPermutation-cons x xs (in_order order xs) (in_order_permutes xs)) (put_in_permutes x (in_order order xs))

module _ (values : IsTotalOrder cmp) (a : Asked) (ks : List OrderKey) (rs : List Record) (differ : IdsDiffer rs) where
  pub sorted : IsPermutation rs (in_order (before a ks) rs) × IsStrictlySortedBy (before a ks) (in_order (before a ks) rs)
  sorted = (in_order_permutes (before a ks) rs, in_order_strict (before a ks) (before_total values a ks) rs (no_ties a ks rs differ))

  pub only : (ss : List Record) → IsPermutation rs ss → IsSorted (before a ks) ss → ss ≡ in_order (before a ks) rs
  only ss p up = sort_is (before a ks) (before_total values a ks) rs ss (no_ties a ks rs differ) p up
