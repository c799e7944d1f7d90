-- The tests of conditions within another, and the first refusal of several lists.
use Rattle.std.proofs.Common.{◌≡◌, List, [], ◌∷◌, ◌++◌, map, Some, None, refl, ap, ◌∙◌, append-nil, flat_map}
use Rattle.std.specs.List.{AllByRecursion}
use mathlib.Core.Former.{Count}
use denote.Hole.Carrier.{hidden}
use Rattle.soql.specs.declared.query.Cond.{Cond, Not, And, Or, And', Or', Row_of-Cond, end_of-Cond, more_of-Cond, items-the_row-Cond, items_hidden-the_row-Cond-1}
use Rattle.soql.specs.declared.query.Cond.TheBlock.{hidden-the_row-Cond-0}
use Rattle.model.specs.declared.refusal.Refusal.{Refusal}
use Rattle.model.specs.Rules.{Rule, first_refusal, first_of}
use Rattle.model.specs.Tests.{tests_of, tests_of_all}

-- ---- within

abbrev row_of : Cond → (n : Count) × Row_of-Cond n
row_of (And' _ row) = (_, row)
row_of (Or' _ row) = (_, row)
row_of _ = (_, end_of-Cond)

in_row : (n : _) (row : Row_of-Cond n) → tests_of_all row ≡ flat_map tests_of (items-the_row-Cond n row)
in_row n end_of-Cond = refl
in_row n (more_of-Cond part rest) = ap (λ ts. tests_of part ++ ts) (in_row _ rest)

pub tests_not : (c : Cond) → tests_of (Not c) ≡ tests_of c
unfolding hidden-the_row-Cond-0 hidden
tests_not c = append-nil (tests_of c)

pub tests_and : (cs : List Cond) → tests_of (And cs) ≡ flat_map tests_of cs
tests_and cs =
    let row = row_of (And cs) in
    in_row row.0 row.1 ∙ ap (flat_map tests_of) (items_hidden-the_row-Cond-1 cs)

pub tests_or : (cs : List Cond) → tests_of (Or cs) ≡ flat_map tests_of cs
tests_or cs =
    let row = row_of (Or cs) in
    in_row row.0 row.1 ∙ ap (flat_map tests_of) (items_hidden-the_row-Cond-1 cs)

-- ---- the first refusal

pub one_rule : (r : Rule) → first_refusal (r ∷ []) ≡ r
one_rule None = refl
one_rule (Some refusal) = refl

module _ {X : Type 0} (f : X → Rule) where
  -- one that refuses decides, and what follows it doesn't matter
  pub first_there : (xs ys : List X) (r : Refusal) → first_of f xs ≡ Some r → first_of f (xs ++ ys) ≡ Some r
  first_there [] ys r e = absurd cc
  first_there (x ∷ xs) ys r e = by (f x) e (first_there xs ys r)
    where
      by : (o : Rule) → first_refusal (o ∷ map f xs) ≡ Some r → (first_of f xs ≡ Some r → first_of f (xs ++ ys) ≡ Some r) → first_refusal (o ∷ map f (xs ++ ys)) ≡ Some r
      by None e more = more e
      by (Some q) e more = e

  -- where none refuses, what follows decides
  pub first_later : (xs ys : List X) → first_of f xs ≡ None → first_of f (xs ++ ys) ≡ first_of f ys
  first_later [] ys e = refl
  first_later (x ∷ xs) ys e = by (f x) e (first_later xs ys)
    where
      by : (o : Rule) → first_refusal (o ∷ map f xs) ≡ None → (first_of f xs ≡ None → first_of f (xs ++ ys) ≡ first_of f ys) → first_refusal (o ∷ map f (xs ++ ys)) ≡ first_of f ys
      by None e more = more e
      by (Some q) e more = absurd cc

-- ---- all of several lists

module _ {X : Type 0} (P : X → Type 0) where
  pub all_front : (xs ys : List X) → AllByRecursion P (xs ++ ys) → AllByRecursion P xs
  all_front [] ys all = tt
  all_front (x ∷ xs) ys all = (all.0, all_front xs ys all.1)

  pub all_back : (xs ys : List X) → AllByRecursion P (xs ++ ys) → AllByRecursion P ys
  all_back [] ys all = all
  all_back (x ∷ xs) ys all = all_back xs ys all.1
