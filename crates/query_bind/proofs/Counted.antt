-- How many branches there are at most: one for each step of the paths that are bound.
use Rattle.std.proofs.Common.{◌≡◌, ◌∙◌, ℕ, ◌+◌, ◌-◌, ◌*◌, ◌<◌, ◌≤◌, List, [], ◌∷◌, ◌++◌, ap, arith, drop, flat_map, get_or, length, refl, subst, sym}
use Rattle.std.specs.List.{sum_by}
use Rattle.std.proofs.lemmas.List.Sums.{sum_by-cons, sum_by-append, sum_by-drop_more}
use Rattle.soql.specs.declared.query.Cond.{Cond}
use Rattle.soql.specs.declared.query.Cond.TheVariants as cond
use Rattle.soql.specs.declared.query.Item.{Item}
use Rattle.soql.specs.declared.query.Item.TheVariants as item
use Rattle.model.specs.Tests.{Tested, tests_of}
use Rattle.model.specs.Shown.{item_steps, path_steps, related_shown}
use Rattle.query_plan.specs.Plans.{child_shown}
use Rattle.query_plan.specs.declared.plan.ChildPlan.{ChildPlan}
use Rattle.query_bind.specs.Cells.{paths_in}
use Rattle.query_plan.specs.declared.paths.branches.Branch.{Branch}
use Rattle.query_check.proofs.Tests.{tests_and, tests_not, tests_or}

-- ---- the tests of a condition

abbrev pub steps : List Tested → ℕ
steps xs = sum_by (λ x. length x.names - 1) xs

module _ (old new : List Branch) where
  abbrev pub IsFewIn : Cond → Type 0
  IsFewIn c = length new ≤ length old + steps (tests_of c)

  pub not_few : (c part given : Cond) → c ≡ cond.Not part → given ≡ part → IsFewIn given → IsFewIn c
  not_few c part given is same few =
      subst IsFewIn (sym is)
      (subst (λ (xs : List Tested). length new ≤ length old + steps xs) (sym (tests_not part)) (subst IsFewIn same few))

  pub and_few : (c : Cond) (parts given : List Cond) → c ≡ cond.And parts → given ≡ parts → length new ≤ length old + steps (flat_map tests_of given) → IsFewIn c
  and_few c parts given is same few =
      subst IsFewIn (sym is)
      (subst (λ (xs : List Tested). length new ≤ length old + steps xs) (ap (flat_map tests_of) same ∙ sym (tests_and parts)) few)

  pub or_few : (c : Cond) (parts given : List Cond) → c ≡ cond.Or parts → given ≡ parts → length new ≤ length old + steps (flat_map tests_of given) → IsFewIn c
  or_few c parts given is same few =
      subst IsFewIn (sym is)
      (subst (λ (xs : List Tested). length new ≤ length old + steps xs) (ap (flat_map tests_of) same ∙ sym (tests_or parts)) few)

-- ---- one after the other

module _ {X : Type 0} (f : X → ℕ) where
  -- those so far, and the steps of what is left
  abbrev pub IsFewSoFar : (old new : List Branch) → List X → ℕ → Type 0
  IsFewSoFar old new xs i = length new + sum_by f (drop i xs) ≤ length old + sum_by f xs

  pub few_more : (old mid new : List Branch) (xs : List X) (i : ℕ) (x : X) → i < length xs → x ≡ get_or xs i x → length new ≤ length mid + f x
      → IsFewSoFar old mid xs i → IsFewSoFar old new xs (i + 1)
  few_more old mid new xs i x lt is few so_far = omega (arith, few, so_far, sum_by-drop_more f xs i x lt, ap f is)

-- the steps of the conditions' tests
abbrev pub steps_in : Cond → ℕ
steps_in c = steps (tests_of c)

steps_each : (cs : List Cond) → steps (flat_map tests_of cs) ≡ sum_by steps_in cs
steps_each [] = refl
steps_each (c ∷ cs) =
    sum_by-append (λ (x : Tested). length x.names - 1) (tests_of c) (flat_map tests_of cs)
    ∙ ap (λ (n : ℕ). steps_in c + n) (steps_each cs)
    ∙ sym (sum_by-cons steps_in c cs)

module _ (old new : List Branch) (cs : List Cond) where
  pub conditions_few : (i : ℕ) → IsFewSoFar steps_in old new cs i → length new ≤ length old + steps (flat_map tests_of cs)
  conditions_few i so_far = omega (arith, so_far, steps_each cs)

  -- where the next one is bound, but can't be kept
  pub next_few : (mid : List Branch) (i : ℕ) (c : Cond) → i < length cs → c ≡ get_or cs i c → length new ≤ length mid + steps_in c
      → IsFewSoFar steps_in old mid cs i → length new ≤ length old + steps (flat_map tests_of cs)
  next_few mid i c lt is few so_far = conditions_few (i + 1) (few_more steps_in old mid new cs i c lt is few so_far)

-- ---- what is selected

pub paths_steps : (items : List Item) → sum_by path_steps (paths_in items) ≡ sum_by item_steps items
paths_steps [] = refl
paths_steps (item.Path p ∷ items) = omega (arith, paths_steps items, sum_by-cons path_steps p (paths_in items), sum_by-cons item_steps (item.Path p) items)
paths_steps (item.Child paths tail ∷ items) = omega (arith, paths_steps items, sum_by-cons item_steps (item.Child paths tail) items)

-- one child subquery more
pub one_child : (olds news : List ChildPlan) (p : ChildPlan) (most : ℕ) → news ≡ olds ++ p ∷ [] → length p.choice.branches ≤ most
    → sum_by child_shown news ≤ sum_by child_shown olds + 20000 * related_shown most
one_child olds news p most e few =
    let all = ap (sum_by child_shown) e ∙ sum_by-append child_shown olds (p ∷ []) in
    omega (arith, all, sum_by-cons child_shown p [], few)
