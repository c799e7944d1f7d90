-- Lists.
use Rattle.std.proofs.Common.{◌≡◌, ◌∙◌, ◌⊎◌, ℕ, ◌+◌, ◌<◌, Bool, true, false, cond, List, [], ◌∷◌, ◌++◌, filter, get_or, length, take, Some, refl, sym, ap, inl, inr}
use Rattle.std.specs.List.{find}
use Rattle.std.proofs.lemmas.List.{take_more}
use Rattle.model.specs.Cases.{in_case}
use Rattle.model.specs.Membership.{Has}

pub kept_has : {X : Type 0} (test : X → Bool) (xs : List X) (x : X) → Has (filter test xs) x → Has xs x
kept_has test [] x has = absurd has
kept_has {X = X} test (y ∷ xs) x has = by (test y) has (kept_has test xs x)
  where
    by : (b : Bool) → Has (cond b (y ∷ filter test xs) (filter test xs)) x → (Has (filter test xs) x → Has xs x) → Has (y ∷ xs) x
    by true (inl e) more = inl e
    by true (inr has) more = inr (more has)
    by false has more = inr (more has)

pub found_in_both : {X : Type 0} (test : X → Bool) (xs ys : List X) → find test (xs ++ ys) ≡ in_case (find test xs) (find test ys) (λ x. Some x)
found_in_both test [] ys = refl
found_in_both {X = X} test (x ∷ xs) ys = by (test x) (found_in_both test xs ys)
  where
    by : (b : Bool) → find test (xs ++ ys) ≡ in_case (find test xs) (find test ys) (λ x. Some x)
        → cond b (Some x) (find test (xs ++ ys)) ≡ in_case (cond b (Some x) (find test xs)) (find test ys) (λ x. Some x)
    by true more = refl
    by false more = more

-- what is in a list with one more is in the list, or is that
pub of_last : {X : Type 0} (xs : List X) (y x : X) → Has (xs ++ y ∷ []) x → (Has xs x) ⊎ (x ≡ y)
of_last [] y x (inl e) = inr e
of_last [] y x (inr has) = absurd has
of_last (z ∷ xs) y x (inl e) = inl (inl e)
of_last (z ∷ xs) y x (inr has) = elim (of_last xs y x has) [ inl more ↦ inl (inr more) | inr e ↦ inr e ]

-- those up to one are those before it, and that
pub taken : {X : Type 0} (xs : List X) (i : ℕ) (x : X) → i < length xs → x ≡ get_or xs i x → take (i + 1) xs ≡ take i xs ++ x ∷ []
taken {X = X} xs i x lt is = take_more xs i x lt ∙ ap (λ (y : X). take i xs ++ y ∷ []) (sym is)
