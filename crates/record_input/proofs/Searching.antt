-- What is found in a list.
use Rattle.std.proofs.Common.{◌≡◌, inl, inr, ℕ, Bool, true, false, cond, IsTrue, List, [], ◌∷◌, Some, refl, sym, ap, subst, ◌∙◌}
use Rattle.std.specs.List.{find, list_all}
use Rattle.std.proofs.lemmas.Option.{same_Some as some_is}
use Rattle.base_lemmas.proofs.Bools.{and_first as and_left, and_second as and_right}
use Rattle.model.specs.declared.record_bodies.Assignment.{Assignment}
use Rattle.model.specs.Fields.{same_name}
use Rattle.model.specs.Membership.{Has}

-- it is there, and passes the test
pub found_has : {X : Type 0} (test : X → Bool) (xs : List X) (x : X) → find test xs ≡ Some x → Has xs x × (test x ≡ true)
found_has test [] x e = absurd cc
found_has {X = X} test (y ∷ xs) x e = by (test y) (λ is. found_has test xs x is) refl e
  where
    by : (b : Bool) → (find test xs ≡ Some x → Has xs x × (test x ≡ true)) → test y ≡ b → cond b (Some y) (find test xs) ≡ Some x
        → Has (y ∷ xs) x × (test x ≡ true)
    by true rest passes is = let same : y ≡ x = some_is y x is in (inl (sym same), ap test (sym same) ∙ passes)
    by false rest passes is = let more = rest is in (inr more.0, more.1)

-- the first with this name
pub first_has : (given : List Assignment) (name : List ℕ) (x : Assignment)
    → Some x ≡ find (λ y. same_name y.field name) given → Has given x × IsTrue (same_name x.field name)
first_has given name x is = found_has (λ y. same_name y.field name) given x (sym is)

-- what is there passes a test of all
pub all_pass : {X : Type 0} (test : X → Bool) (xs : List X) (x : X) → IsTrue (list_all test xs) → Has xs x → IsTrue (test x)
all_pass test [] x all has = absurd has
all_pass {X = X} test (y ∷ xs) x all (inl same) = subst (λ (z : X). IsTrue (test z)) (sym same) (and_left (test y) (list_all test xs) all)
all_pass test (y ∷ xs) x all (inr more) = all_pass test xs x (and_right (test y) (list_all test xs) all) more
