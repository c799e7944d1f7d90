-- Whether two iterators give equal lists of numbers.
use Rattle.std.proofs.Common.{◌≡◌, ℕ, Bool, true, false, ◌&&◌, nat_eq, List, [], ◌∷◌, Option, Some, None, sym, ap, subst, ◌∙◌}
use Rattle.std.specs.Prelude.{IfSome, MatchOption, bytes_eq}
use Rattle.std.specs.Iterator.{AlwaysYields, ComparesItemsByEq, YieldsThen}
use Rattle.std.specs.List.{AllZip}
use Rattle.std.proofs.lemmas.Iterator.{YieldsList}

module _ {S T : Type 0} (steps : S → Option ℕ → S → Type 0) (others : T → Option ℕ → T → Type 0) (r : Bool) where
  -- what it means that the one gave the first and the other the second
  abbrev Last : Option ℕ → Option ℕ → Type 0
  Last o p = MatchOption o (MatchOption p (r ≡ true) (λ _. r ≡ false)) (λ x. (r ≡ false) × IfSome p (λ y. nat_eq x y ≡ false))

  at_last : (o p : Option ℕ) (xs ys : List ℕ) (s u : S) (t w : T) → AlwaysYields steps (λ x. x) s xs → AlwaysYields others (λ y. y) t ys
      → steps s o u → others t p w → Last o p → r ≡ bytes_eq xs ys
  at_last None p (x ∷ xs) ys s u t w e f a b h = absurd (e.0 u a)
  at_last (Some x) p [] ys s u t w e f a b h = absurd (e x u a)
  at_last None None [] (y ∷ ys) s u t w e f a b h = absurd (f.0 w b)
  at_last None (Some y) [] [] s u t w e f a b h = absurd (f y w b)
  at_last None None [] [] s u t w e f a b h = h
  at_last None (Some y) [] (z ∷ ys) s u t w e f a b h = h
  at_last (Some x) None (z ∷ xs) (y ∷ ys) s u t w e f a b h = absurd (f.0 w b)
  at_last (Some x) (Some y) (z ∷ xs) [] s u t w e f a b h = absurd (f y w b)
  at_last (Some x) None (z ∷ xs) [] s u t w e f a b h = h.0
  at_last (Some x) (Some y) (x' ∷ xs) (y' ∷ ys) s u t w e f a b h =
      let differ : nat_eq x' y' ≡ false = ap (λ (n : ℕ). nat_eq n y') (sym (e.1 x u a).0) ∙ ap (nat_eq x) (sym (f.1 y w b).0) ∙ h.1 in
      h.0 ∙ ap (λ (same : Bool). same && bytes_eq xs ys) (sym differ)

  along : (cs ds : List ℕ) (o p : Option ℕ) (xs ys : List ℕ) (s u : S) (t w : T) → AlwaysYields steps (λ x. x) s xs → AlwaysYields others (λ y. y) t ys
      → YieldsThen steps s cs o u → YieldsThen others t ds p w → AllZip (λ x y. nat_eq x y ≡ true) cs ds → Last o p → r ≡ bytes_eq xs ys
  along [] [] o p xs ys s u t w e f a b z h = at_last o p xs ys s u t w e f (subst (λ j. steps j o u) (sym a.1) a.2) (subst (λ j. others j p w) (sym b.1) b.2) h
  along [] (y ∷ ds) o p xs ys s u t w e f a b z h = absurd z
  along (x ∷ cs) [] o p xs ys s u t w e f a b z h = absurd z
  along (x ∷ cs) (y ∷ ds) o p [] ys s u t w e f a b z h = absurd (e x a.1.0 a.1.1)
  along (x ∷ cs) (y ∷ ds) o p (x' ∷ xs) [] s u t w e f a b z h = absurd (f y b.1.0 b.1.1)
  along (x ∷ cs) (y ∷ ds) o p (x' ∷ xs) (y' ∷ ys) s u t w e f a b z h =
      let first = e.1 x a.1.0 a.1.1 in
      let other = f.1 y b.1.0 b.1.1 in
      let same : nat_eq x' y' ≡ true = ap (λ (n : ℕ). nat_eq n y') (sym first.0) ∙ ap (nat_eq x) (sym other.0) ∙ z.0 in
      along cs ds o p xs ys a.1.0 u b.1.0 w first.1 other.1 (a.0, a.1.2, a.2) (b.0, b.1.2, b.2) z.1 h ∙ ap (λ (same : Bool). same && bytes_eq xs ys) (sym same)

-- what `eq` returns is whether the lists are equal
pub eq_is : {S T : Type 0} {steps : S → Option ℕ → S → Type 0} {others : T → Option ℕ → T → Type 0} {s : S} {xs ys : List ℕ} (it : T) (r : Bool)
    → ComparesItemsByEq steps (λ (x y : T). y ≡ x) others s it nat_eq r → YieldsList steps (λ x. x) s xs → YieldsList others (λ y. y) it ys → r ≡ bytes_eq xs ys
eq_is {T = T} {steps = steps} {others = others} {s = s} {xs = xs} {ys = ys} it r d e f =
    along steps others r d.1 d.2 d.3 d.4 xs ys s d.5 d.0 d.6 e.runs (subst (λ (j : T). AlwaysYields others (λ y. y) j ys) (sym d.7) f.runs) d.8 d.9 d.10 d.11
