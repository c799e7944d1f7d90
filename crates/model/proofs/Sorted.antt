-- Of elements that don't tie, one list alone is in order, and it is what `in_order` gives.
use Rattle.std.proofs.Common.{◌≡◌, inl, inr, suc, List, [], ◌∷◌, Bool, true, false, cond, refl, sym, ap, ◌∙◌, subst, true≢false, arith, is_eq}
use Rattle.std.specs.declared.cmp.Ordering.{Ordering}
use Rattle.std.specs.declared.cmp.Ordering.TheVariants.{Less, Equal, Greater}
use Rattle.std.specs.Ordering.{is_lt, eq_by_cmp, ordering_reverse}
use Rattle.std.specs.Cmp.{IsTotalOrder}
use Rattle.std.specs.List.{IsDistinct, AllByRecursion}
use Rattle.std.specs.List.Sorted.{IsPermutation, IsSorted, IsStrictlySortedBy}
use native.Mathlib.Numerals.{unary_clauses}
use Rattle.std.proofs.lemmas.Cmp.{tied_itself}
use Rattle.std.proofs.lemmas.List.Sorted.{All-permutation, IsPermutation-sym}
use Rattle.std.proofs.lemmas.List.Elements.{All-from_recursion, recursion_from_All}
use Rattle.std.proofs.lemmas.Map.Keys.{IsDistinct-IsPermutation}
use Rattle.model.specs.Membership.{Has}
use Rattle.model.specs.Ordered.{put_in, in_order}

-- no two of them tie
abbrev pub NoTies : {X : Type 0} → (X → X → Ordering) → List X → Type 0
NoTies cmp xs = IsDistinct (eq_by_cmp cmp) xs

-- what holds of all holds of each
pub all_has : {X : Type 0} (P : X → Type 0) (xs : List X) → AllByRecursion P xs → (x : X) → Has xs x → P x
all_has P [] all x h = absurd h
all_has P (y ∷ ys) all x (inl same) = subst P (sym same) all.0
all_has P (y ∷ ys) all x (inr later) = all_has P ys all.1 x later

pub has_all : {X : Type 0} (P : X → Type 0) (xs : List X) → ((x : X) → Has xs x → P x) → AllByRecursion P xs
has_all P [] each = tt
has_all P (y ∷ ys) each = (each y (inl refl), has_all P ys (λ x h. each x (inr h)))

module _ {X : Type 0} (cmp : X → X → Ordering) (o : IsTotalOrder cmp) where
  less_not_equal : {r : Ordering} → r ≡ Less → r ≡ Equal → ⊥
  less_not_equal a b = cc

  pub never_below_itself : (x : X) → cmp x x ≡ Less → ⊥
  never_below_itself x h = less_not_equal h (tied_itself o x)

  pub not_both : (x y : X) → cmp x y ≡ Less → cmp y x ≡ Less → ⊥
  not_both x y a b = never_below_itself x (o.trans x y x a b)

  -- lists that rise strictly and have the same elements are one
  pub strict_unique : (xs ys : List X) → IsStrictlySortedBy cmp xs → IsStrictlySortedBy cmp ys
      → ((x : X) → Has xs x → Has ys x) → ((x : X) → Has ys x → Has xs x) → xs ≡ ys
  unfolding IsStrictlySortedBy
  strict_unique [] [] p q f g = refl
  strict_unique [] (y ∷ ys) p q f g = absurd (g y (inl refl))
  strict_unique (x ∷ xs) [] p q f g = absurd (f x (inl refl))
  strict_unique (x ∷ xs) (y ∷ ys) p q f g =
      let same : x ≡ y = first (f x (inl refl)) (g y (inl refl)) in
      cc (same, strict_unique xs ys p.1 q.1 (λ z h. onward z h (f z (inr h)) same) (λ z h. backward z h (g z (inr h)) same))
    where
      first : Has (y ∷ ys) x → Has (x ∷ xs) y → x ≡ y
      first (inl same) b = same
      first (inr later) (inl same) = sym same
      first (inr later) (inr after) =
          absurd (not_both x y (all_has (λ z. cmp x z ≡ Less) xs p.0 y after) (all_has (λ z. cmp y z ≡ Less) ys q.0 x later))

      onward : (z : X) → Has xs z → Has (y ∷ ys) z → x ≡ y → Has ys z
      onward z h (inl at) same = absurd (never_below_itself x (ap (cmp x) (same ∙ sym at) ∙ all_has (λ w. cmp x w ≡ Less) xs p.0 z h))
      onward z h (inr later) same = later

      backward : (z : X) → Has ys z → Has (x ∷ xs) z → x ≡ y → Has xs z
      backward z h (inl at) same = absurd (never_below_itself y (ap (cmp y) (sym same ∙ sym at) ∙ all_has (λ w. cmp y w ≡ Less) ys q.0 z h))
      backward z h (inr later) same = later

  -- ---- putting in

  pub put_in_has : (x : X) (ys : List X) (z : X) → Has (put_in cmp x ys) z → Has (x ∷ ys) z
  put_in_has x [] z h = h
  put_in_has x (y ∷ ys) z h = by (is_lt (cmp x y)) (put_in_has x ys z) h
    where
      by : (b : Bool) → (Has (put_in cmp x ys) z → Has (x ∷ ys) z) → Has (cond b (x ∷ y ∷ ys) (y ∷ put_in cmp x ys)) z → Has (x ∷ y ∷ ys) z
      by true more g = g
      by false more (inl same) = inr (inl same)
      by false more (inr later) = elim (more later) [ inl same ↦ inl same | inr after ↦ inr (inr after) ]

  pub has_put_in : (x : X) (ys : List X) (z : X) → Has (x ∷ ys) z → Has (put_in cmp x ys) z
  has_put_in x [] z h = h
  has_put_in x (y ∷ ys) z h = by (is_lt (cmp x y)) (has_put_in x ys z) h
    where
      by : (b : Bool) → (Has (x ∷ ys) z → Has (put_in cmp x ys) z) → Has (x ∷ y ∷ ys) z → Has (cond b (x ∷ y ∷ ys) (y ∷ put_in cmp x ys)) z
      by true more g = g
      by false more (inl same) = inr (more (inl same))
      by false more (inr (inl same)) = inl same
      by false more (inr (inr later)) = inr (more (inr later))

  is_less : (r : Ordering) → is_lt r ≡ true → r ≡ Less
  is_less Less h = refl
  is_less Equal h = absurd (true≢false (sym h))
  is_less Greater h = absurd (true≢false (sym h))

  -- neither below nor tied: above
  above : (x y : X) → is_lt (cmp x y) ≡ false → eq_by_cmp cmp x y ≡ false → cmp y x ≡ Less
  above x y low apart = by (cmp x y) refl low apart
    where
      by : (r : Ordering) → cmp x y ≡ r → is_lt r ≡ false → is_eq r ≡ false → cmp y x ≡ Less
      by Less is l e = absurd (true≢false l)
      by Equal is l e = absurd (true≢false e)
      by Greater is l e = o.antisymm y x ∙ ap ordering_reverse is

  pub put_in_strict : (x : X) (ys : List X) → AllByRecursion (λ y. eq_by_cmp cmp x y ≡ false) ys
      → IsStrictlySortedBy cmp ys → IsStrictlySortedBy cmp (put_in cmp x ys)
  unfolding IsStrictlySortedBy
  put_in_strict x [] apart up = (tt, tt)
  put_in_strict x (y ∷ ys) apart up = by (is_lt (cmp x y)) refl (put_in_strict x ys apart.1 up.1)
    where
      by : (b : Bool) → is_lt (cmp x y) ≡ b → IsStrictlySortedBy cmp (put_in cmp x ys)
          → IsStrictlySortedBy cmp (cond b (x ∷ y ∷ ys) (y ∷ put_in cmp x ys))
      by true is later =
          let low = is_less (cmp x y) is in
          ((low, has_all (λ z. cmp x z ≡ Less) ys (λ z h. o.trans x y z low (all_has (λ w. cmp y w ≡ Less) ys up.0 z h))), up)
      by false is later =
          let high = above x y is apart.0 in
          (has_all (λ z. cmp y z ≡ Less) (put_in cmp x ys) (λ z h. at z (put_in_has x ys z h) high), later)
        where
          at : (z : X) → Has (x ∷ ys) z → cmp y x ≡ Less → cmp y z ≡ Less
          at z (inl same) high = ap (cmp y) same ∙ high
          at z (inr in_rest) high = all_has (λ w. cmp y w ≡ Less) ys up.0 z in_rest

  pub in_order_has : (xs : List X) (z : X) → Has (in_order cmp xs) z → Has xs z
  unfolding in_order
  in_order_has [] z h = h
  in_order_has (x ∷ xs) z h = elim (put_in_has x (in_order cmp xs) z h) [ inl same ↦ inl same | inr later ↦ inr (in_order_has xs z later) ]

  pub has_in_order : (xs : List X) (z : X) → Has xs z → Has (in_order cmp xs) z
  unfolding in_order
  has_in_order [] z h = h
  has_in_order (x ∷ xs) z (inl same) = has_put_in x (in_order cmp xs) z (inl same)
  has_in_order (x ∷ xs) z (inr later) = has_put_in x (in_order cmp xs) z (inr (has_in_order xs z later))

  pub in_order_strict : (xs : List X) → NoTies cmp xs → IsStrictlySortedBy cmp (in_order cmp xs)
  unfolding in_order IsDistinct IsStrictlySortedBy
  in_order_strict [] apart = tt
  in_order_strict (x ∷ xs) apart =
      put_in_strict x (in_order cmp xs)
      (has_all (λ y. eq_by_cmp cmp x y ≡ false) (in_order cmp xs) (λ z h.
      all_has (λ y. eq_by_cmp cmp x y ≡ false) xs apart.0 z (in_order_has xs z h)))
      (in_order_strict xs apart.1)

  pub turned : (x y : X) → eq_by_cmp cmp x y ≡ eq_by_cmp cmp y x
  turned x y = by (cmp x y) (cmp y x) (o.antisymm x y)
    where
      by : (r q : Ordering) → r ≡ ordering_reverse q → is_eq r ≡ is_eq q
      by r Less e = ap is_eq e
      by r Equal e = ap is_eq e
      by r Greater e = ap is_eq e

  -- ---- what a sort says

  -- neighbours: a list whose neighbours don't fall and that has no ties rises strictly
  tail_sorted : (x : X) (ys : List X) → IsSorted cmp (x ∷ ys) → IsSorted cmp ys
  tail_sorted x ys up k d low within = simp unary_clauses (simp unary_clauses at (up (suc k) d (omega arith) (omega arith)))

  pub sorted_strict : (xs : List X) → IsSorted cmp xs → NoTies cmp xs → IsStrictlySortedBy cmp xs
  unfolding IsDistinct IsStrictlySortedBy
  sorted_strict [] up apart = tt
  sorted_strict (x ∷ []) up apart = (tt, tt)
  sorted_strict (x ∷ y ∷ ys) up apart =
      let rest = sorted_strict (y ∷ ys) (tail_sorted x (y ∷ ys) up) apart.1 in
      let tied : eq_by_cmp cmp y x ≡ false = turned y x ∙ apart.0.0 in
      let low = above y x (up 0 x (omega arith) (omega arith)) tied in
      ((low, has_all (λ z. cmp x z ≡ Less) ys (λ z h. o.trans x y z low (all_has (λ w. cmp y w ≡ Less) ys rest.0 z h))), rest)

  permuted_has : (xs ys : List X) → IsPermutation xs ys → (z : X) → Has ys z → Has xs z
  permuted_has xs ys p z h =
      let here = All-from_recursion (Has xs) xs (has_all (Has xs) xs (λ x g. g)) in
      all_has (Has xs) ys (recursion_from_All (Has xs) ys (All-permutation (Has xs) xs ys p here)) z h

  pub sort_is : (xs ys : List X) → NoTies cmp xs → IsPermutation xs ys → IsSorted cmp ys → ys ≡ in_order cmp xs
  sort_is xs ys apart p up =
      let ties_turn : (x y : X) → eq_by_cmp cmp x y ≡ eq_by_cmp cmp y x = λ x y. turned x y in
      let still = IsDistinct-IsPermutation (eq_by_cmp cmp) ties_turn xs ys p apart in
      strict_unique ys (in_order cmp xs) (sorted_strict ys up still) (in_order_strict xs apart)
      (λ z h. has_in_order xs z (permuted_has xs ys p z h))
      (λ z h. permuted_has ys xs (IsPermutation-sym xs ys p) z (in_order_has xs z h))
