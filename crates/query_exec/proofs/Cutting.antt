-- The first of a list in order, where of what was gathered those behind the wanted ones are left out on the way.
use Rattle.std.proofs.Common.{◌≡◌, ◌∙◌, inl, inr, ℕ, zero, suc, List, [], ◌∷◌, ◌++◌, Bool, true, false, cond, Option, Some, append_assoc, append-nil, arith, refl, sym, ap, subst, is_eq, take}
use Rattle.std.specs.Prelude.{◌⊎◌}
use Rattle.std.specs.declared.cmp.Ordering.{Ordering}
use Rattle.std.specs.declared.cmp.Ordering.TheVariants.{Less}
use Rattle.std.specs.Ordering.{is_lt, eq_by_cmp}
use Rattle.std.specs.Cmp.{IsTotalOrder, on_total, then_total}
use Rattle.std.specs.List.{IsDistinct}
use Rattle.std.specs.List.Sorted.{IsStrictlySortedBy}
use Rattle.std.proofs.lemmas.List.{take-take}
use Rattle.model.specs.Membership.{Has}
use Rattle.model.specs.Ordered.{put_in, in_order}
use Rattle.model.specs.Rows.{limited}
use Rattle.model.specs.declared.record.Record.{Record}
use Rattle.query_exec.specs.declared.ranked.Ranked.{Ranked}
use Rattle.query_exec.specs.Ranks.{GathersRows, by_rank}
use Rattle.query_exec.specs.inner.Gathering.{CutsRows}
use Rattle.query_exec.proofs.Paging.{by_id_total}
use Rattle.query_exec.proofs.Sorting.{gathered_apart, gathers_first, gathers_more, gathers_nothing}
use Rattle.model.proofs.Sorted.{NoTies, all_has, has_all, has_in_order, in_order_has, in_order_strict, strict_unique, turned}

-- ---- what is in two lists, one behind the other

has_front : {X : Type 0} (xs ys : List X) (z : X) → Has xs z → Has (xs ++ ys) z
has_front [] ys z h = absurd h
has_front (x ∷ xs) ys z (inl same) = inl same
has_front (x ∷ xs) ys z (inr later) = inr (has_front xs ys z later)

has_back : {X : Type 0} (xs ys : List X) (z : X) → Has ys z → Has (xs ++ ys) z
has_back [] ys z h = h
has_back (x ∷ xs) ys z h = inr (has_back xs ys z h)

has_either : {X : Type 0} (xs ys : List X) (z : X) → Has (xs ++ ys) z → Has xs z ⊎ Has ys z
has_either [] ys z h = inr h
has_either (x ∷ xs) ys z (inl same) = inl (inl same)
has_either (x ∷ xs) ys z (inr later) = elim (has_either xs ys z later) [ inl h ↦ inl (inr h) | inr h ↦ inr h ]

has_first : {X : Type 0} (k : ℕ) (xs : List X) (z : X) → Has (take k xs) z → Has xs z
has_first zero xs z h = absurd h
has_first (suc k) [] z h = absurd h
has_first (suc k) (x ∷ xs) z (inl same) = inl same
has_first (suc k) (x ∷ xs) z (inr later) = inr (has_first k xs z later)

module _ {X : Type 0} (cmp : X → X → Ordering) where
  -- ---- lists of which no two elements tie

  abbrev Apart : X → X → Type 0
  Apart x y = eq_by_cmp cmp x y ≡ false

  pub apart_front : (xs ys : List X) → NoTies cmp (xs ++ ys) → NoTies cmp xs
  unfolding IsDistinct
  apart_front [] ys a = tt
  apart_front (x ∷ xs) ys a = (has_all (Apart x) xs (λ z h. all_has (Apart x) (xs ++ ys) a.0 z (has_front xs ys z h)), apart_front xs ys a.1)

  apart_back : (xs ys : List X) → NoTies cmp (xs ++ ys) → NoTies cmp ys
  unfolding IsDistinct
  apart_back [] ys a = a
  apart_back (x ∷ xs) ys a = apart_back xs ys a.1

  abbrev Across : List X → List X → Type 0
  Across xs ys = (x y : X) → Has xs x → Has ys y → Apart x y

  apart_across : (xs ys : List X) → NoTies cmp (xs ++ ys) → Across xs ys
  unfolding IsDistinct
  apart_across [] ys a x y h i = absurd h
  apart_across (w ∷ xs) ys a x y (inl same) i = subst (λ (v : X). Apart v y) (sym same) (all_has (Apart w) (xs ++ ys) a.0 y (has_back xs ys y i))
  apart_across (w ∷ xs) ys a x y (inr later) i = apart_across xs ys a.1 x y later i

  apart_both : (xs ys : List X) → NoTies cmp xs → NoTies cmp ys → Across xs ys → NoTies cmp (xs ++ ys)
  unfolding IsDistinct
  apart_both [] ys a b c = b
  apart_both (x ∷ xs) ys a b c = (
    has_all (Apart x) (xs ++ ys) (λ z h. elim (has_either xs ys z h) [ inl i ↦ all_has (Apart x) xs a.0 z i | inr i ↦ c x z (inl refl) i ]),
    apart_both xs ys a.1 b (λ v y h i. c v y (inr h) i),
  )

  strict_apart : (xs : List X) → IsStrictlySortedBy cmp xs → NoTies cmp xs
  unfolding IsDistinct IsStrictlySortedBy
  strict_apart [] up = tt
  strict_apart (x ∷ xs) up = (has_all (Apart x) xs (λ z h. ap is_eq (all_has (λ (w : X). cmp x w ≡ Less) xs up.0 z h)), strict_apart xs up.1)

  strict_first : (k : ℕ) (xs : List X) → IsStrictlySortedBy cmp xs → IsStrictlySortedBy cmp (take k xs)
  unfolding IsStrictlySortedBy
  strict_first zero xs up = tt
  strict_first (suc k) [] up = tt
  strict_first (suc k) (x ∷ xs) up =
      (has_all (λ (w : X). cmp x w ≡ Less) (take k xs) (λ z h. all_has (λ (w : X). cmp x w ≡ Less) xs up.0 z (has_first k xs z h)), strict_first k xs up.1)

  -- ---- the first of a list into which more is put

  first_put : (k : ℕ) (y : X) (zs : List X) → take k (put_in cmp y zs) ≡ take k (put_in cmp y (take k zs))
  first_put zero y zs = refl
  first_put (suc k) y [] = refl
  first_put (suc k) y (z ∷ zs) = by (is_lt (cmp y z)) (first_put k y zs)
    where
      behind : (k : ℕ) → take k (z ∷ zs) ≡ take k (z ∷ take k zs)
      behind zero = refl
      behind (suc k) = ap (λ (l : List X). z ∷ l) (sym (take-take k (suc k) zs (omega arith)))

      by : (b : Bool) → take k (put_in cmp y zs) ≡ take k (put_in cmp y (take k zs))
          → take (suc k) (cond b (y ∷ z ∷ zs) (z ∷ put_in cmp y zs)) ≡ take (suc k) (cond b (y ∷ z ∷ take k zs) (z ∷ put_in cmp y (take k zs)))
      by true e = ap (λ (l : List X). y ∷ l) (behind k)
      by false e = ap (λ (l : List X). z ∷ l) e

  put_all : List X → List X → List X
  put_all [] zs = zs
  put_all (y ∷ ys) zs = put_in cmp y (put_all ys zs)

  in_order_both : (ys xs : List X) → in_order cmp (ys ++ xs) ≡ put_all ys (in_order cmp xs)
  unfolding in_order put_all
  in_order_both [] xs = refl
  in_order_both (y ∷ ys) xs = ap (put_in cmp y) (in_order_both ys xs)

  first_put_all : (k : ℕ) (ys zs : List X) → take k (put_all ys zs) ≡ take k (put_all ys (take k zs))
  unfolding put_all
  first_put_all k [] zs = sym (take-take k k zs (omega arith))
  first_put_all k (y ∷ ys) zs =
      first_put k y (put_all ys zs) ∙ ap (λ (l : List X). take k (put_in cmp y l)) (first_put_all k ys zs) ∙ sym (first_put k y (put_all ys (take k zs)))

  module _ (o : IsTotalOrder cmp) where
    in_order_swapped : (xs ys : List X) → NoTies cmp (xs ++ ys) → in_order cmp (xs ++ ys) ≡ in_order cmp (ys ++ xs)
    in_order_swapped xs ys a =
        let back : NoTies cmp (ys ++ xs) = apart_both ys xs (apart_back xs ys a) (apart_front xs ys a) (λ y x i h. turned cmp o y x ∙ apart_across xs ys a x y h i) in
        strict_unique cmp o (in_order cmp (xs ++ ys)) (in_order cmp (ys ++ xs)) (in_order_strict cmp o (xs ++ ys) a) (in_order_strict cmp o (ys ++ xs) back)
        (λ z h. has_in_order cmp o (ys ++ xs) z (over xs ys z (in_order_has cmp o (xs ++ ys) z h)))
        (λ z h. has_in_order cmp o (xs ++ ys) z (over ys xs z (in_order_has cmp o (ys ++ xs) z h)))
      where
        over : (xs ys : List X) (z : X) → Has (xs ++ ys) z → Has (ys ++ xs) z
        over xs ys z h = elim (has_either xs ys z h) [ inl i ↦ has_back ys xs z i | inr i ↦ has_front ys xs z i ]

    in_order_again : (xs : List X) → IsStrictlySortedBy cmp xs → in_order cmp xs ≡ xs
    in_order_again xs up =
        strict_unique cmp o (in_order cmp xs) xs (in_order_strict cmp o xs (strict_apart xs up)) up (λ z h. in_order_has cmp o xs z h) (λ z h. has_in_order cmp o xs z h)

    first_strict : (k : ℕ) (xs : List X) → NoTies cmp xs → IsStrictlySortedBy cmp (take k (in_order cmp xs))
    first_strict k xs a = strict_first k (in_order cmp xs) (in_order_strict cmp o xs a)

    -- the first of a list in order don't tie with what comes behind the list
    cut_apart : (k : ℕ) (xs ys : List X) → NoTies cmp (xs ++ ys) → NoTies cmp (take k (in_order cmp xs) ++ ys)
    cut_apart k xs ys a =
        apart_both (take k (in_order cmp xs)) ys (strict_apart (take k (in_order cmp xs)) (first_strict k xs (apart_front xs ys a))) (apart_back xs ys a)
        (λ x y h i. apart_across xs ys a x y (in_order_has cmp o xs x (has_first k (in_order cmp xs) x h)) i)

    -- the first of a list with more behind it are the first of its first with as much behind them
    cut_first : (k : ℕ) (xs ys : List X) → NoTies cmp (xs ++ ys) → take k (in_order cmp (take k (in_order cmp xs) ++ ys)) ≡ take k (in_order cmp (xs ++ ys))
    cut_first k xs ys a =
        let first = take k (in_order cmp xs) in
        ap (take k) (in_order_swapped first ys (cut_apart k xs ys a) ∙ in_order_both ys first)
        ∙ ap (λ (l : List X). take k (put_all ys l)) (in_order_again first (first_strict k xs (apart_front xs ys a)))
        ∙ sym (first_put_all k ys (in_order cmp xs))
        ∙ ap (take k) (sym (in_order_both ys xs) ∙ sym (in_order_swapped xs ys a))

    -- ---- what is kept of what was seen

    -- of those seen these are kept: whatever comes behind both, the first that are wanted are the same
    pub record Ahead (wanted : Option ℕ) (kept seen : List X) : Type 0 where
      pub has : (x : X) → Has kept x → Has seen x
      pub apart : (more : List X) → NoTies cmp (seen ++ more) → NoTies cmp (kept ++ more)
      pub first : (more : List X) → NoTies cmp (seen ++ more) → limited wanted (in_order cmp (kept ++ more)) ≡ limited wanted (in_order cmp (seen ++ more))

    pub ahead_none : (wanted : Option ℕ) → Ahead wanted [] []
    ahead_none wanted = record { has = λ x h. h; apart = λ more a. a; first = λ more a. refl }

    pub ahead_more : (wanted : Option ℕ) (kept seen page : List X) → Ahead wanted kept seen → Ahead wanted (kept ++ page) (seen ++ page)
    ahead_more wanted kept seen page g = record {
      has = λ x h. elim (has_either kept page x h) [ inl i ↦ has_front seen page x (g.has x i) | inr i ↦ has_back seen page x i ];
      apart = λ more a. subst (NoTies cmp) (sym (append_assoc kept page more)) (g.apart (page ++ more) (subst (NoTies cmp) (append_assoc seen page more) a));
      first = λ more a.
          ap (λ (xs : List X). limited wanted (in_order cmp xs)) (append_assoc kept page more)
          ∙ g.first (page ++ more) (subst (NoTies cmp) (append_assoc seen page more) a)
          ∙ ap (λ (xs : List X). limited wanted (in_order cmp xs)) (sym (append_assoc seen page more));
    }

    pub ahead_cut : (k : ℕ) (kept seen : List X) → Ahead (Some k) kept seen → Ahead (Some k) (take k (in_order cmp kept)) seen
    ahead_cut k kept seen g = record {
      has = λ x h. g.has x (in_order_has cmp o kept x (has_first k (in_order cmp kept) x h));
      apart = λ more a. cut_apart k kept more (g.apart more a);
      first = λ more a. cut_first k kept more (g.apart more a) ∙ g.first more a;
    }

-- ---- rows that are gathered

module _ {R X : Type 0} (cmp : R → R → Ordering) (total : IsTotalOrder cmp) (P : X → Record → Type 0) (rank : Record → R) (wanted : Option ℕ) where
  abbrev by_rank_total : IsTotalOrder (by_rank cmp rank)
  by_rank_total = then_total (on_total rank total) by_id_total

  -- the rows of some of those seen, the first of which in order are the first of all
  pub record Gathers (rows : List (Ranked R X)) (seen : List Record) : Type 0 where
    pub kept : List Record
    pub gathered : GathersRows P rank [] rows kept
    pub ahead : Ahead (by_rank cmp rank) by_rank_total wanted kept seen

  -- as long as these don't tie
  abbrev pub GathersApart : (rows : List (Ranked R X)) (seen : List Record) → Type 0
  GathersApart rows seen = NoTies (by_rank cmp rank) seen → Gathers rows seen

  pub gathers_none : GathersApart [] []
  gathers_none apart = record { kept = []; gathered = gathers_nothing P rank []; ahead = ahead_none (by_rank cmp rank) by_rank_total wanted }

  -- more rows
  more_gathered : (mid new : List (Ranked R X)) (seen page : List Record) → Gathers mid seen → GathersRows P rank mid new page → Gathers new (seen ++ page)
  more_gathered mid new seen page g h = record {
    kept = g.kept ++ page;
    gathered = gathers_more P rank [] mid new g.kept page g.gathered h;
    ahead = ahead_more (by_rank cmp rank) by_rank_total wanted g.kept seen page g.ahead;
  }

  -- the first of them
  first_gathered : (old new : List (Ranked R X)) (seen : List Record) → CutsRows cmp wanted old new → NoTies (by_rank cmp rank) seen → Gathers old seen → Gathers new seen
  first_gathered old new seen cuts apart g =
      let kept_apart : NoTies (by_rank cmp rank) g.kept =
      subst (NoTies (by_rank cmp rank)) (append-nil g.kept) (g.ahead.apart [] (subst (NoTies (by_rank cmp rank)) (sym (append-nil seen)) apart)) in
      elim (cuts (gathered_apart cmp P rank g.kept old kept_apart g.gathered)) [
        | inl same ↦ subst (λ (rows : List (Ranked R X)). Gathers rows seen) (sym same) g
        | inr cut ↦ record {
          kept = take cut.0 (in_order (by_rank cmp rank) g.kept);
          gathered = gathers_first cmp P rank cut.0 g.kept old new g.gathered cut.2;
          ahead = subst (λ (most : Option ℕ). Ahead (by_rank cmp rank) by_rank_total most (take cut.0 (in_order (by_rank cmp rank) g.kept)) seen) (sym cut.1)
              (ahead_cut (by_rank cmp rank) by_rank_total cut.0 g.kept seen
              (subst (λ (most : Option ℕ). Ahead (by_rank cmp rank) by_rank_total most g.kept seen) cut.1 g.ahead));
        }
      ]

  -- a page more, and the first of all
  pub gathers_page : (mid new cut : List (Ranked R X)) (seen page : List Record) → GathersApart mid seen → GathersRows P rank mid new page → CutsRows cmp wanted new cut → GathersApart cut (seen ++ page)
  gathers_page mid new cut seen page goes h cuts apart =
      first_gathered new cut (seen ++ page) cuts apart (more_gathered mid new seen page (goes (apart_front (by_rank cmp rank) seen page apart)) h)
