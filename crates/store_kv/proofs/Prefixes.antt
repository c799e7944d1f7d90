-- The keys with one prefix are one interval.
use Rattle.std.proofs.Common.{◌≡◌, ℕ, suc, ◌+◌, ◌<◌, Bool, true, false, ◌&&◌, cond, eqb, eq-eqb, eqb-true, List, [], ◌∷◌, ◌++◌, Option, Some, None, IsTrue, refl, sym, ap, subst, ◌∙◌, arith}
use Rattle.std.proofs.lemmas.Bool.{and_parts, and_from}
use Rattle.std.proofs.lemmas.Bool.Decides.{nat_tests}
use Rattle.std.proofs.lemmas.Cmp.{ranked}
use Rattle.std.specs.declared.cmp.Ordering.{Ordering}
use Rattle.std.specs.declared.cmp.Ordering.TheVariants.{Less, Equal, Greater}
use Rattle.std.specs.Ordering.{nat_cmp, ordering_then, MatchOrdering, is_ge, is_lt}
use Rattle.std.proofs.lemmas.Option.{same_Some as some_is}
use Rattle.base_lemmas.proofs.Bools.{and-true as and_true}
use Rattle.base_lemmas.proofs.Options.{cond_none_some as cond_some}
use Rattle.store_kv.specs.Tables.{bytes_cmp, is_between}
use Rattle.store_kv.specs.Prefixes.{StartsWith, AreBytes, raised_from, raised}

-- ---- beginning with a prefix, as a test

begins_with : List ℕ → List ℕ → Bool
begins_with [] key = true
begins_with (b ∷ p) [] = false
begins_with (b ∷ p) (x ∷ key) = eqb x b && begins_with p key

begins-starts : (p k : List ℕ) → begins_with p k ≡ true → StartsWith p k
unfolding begins_with
begins-starts [] k e = (k, refl)
begins-starts (b ∷ p) [] e = absurd cc
begins-starts (b ∷ p) (x ∷ k) e = let h = and_parts _ _ e in let rest = begins-starts p k h.1 in (rest.0, λ i. eqb-true x b h.0 i ∷ rest.1 i)

begins_append : (p rest : List ℕ) → begins_with p (p ++ rest) ≡ true
unfolding begins_with
begins_append [] rest = refl
begins_append (b ∷ p) rest = and_from _ _ (eq-eqb b b refl) (begins_append p rest)

starts-begins : (p k : List ℕ) → StartsWith p k → begins_with p k ≡ true
starts-begins p k s = ap (begins_with p) s.1 ∙ begins_append p s.0

-- ---- the interval

bytes_rest : (x : ℕ) (k : List ℕ) → AreBytes (x ∷ k) → AreBytes k
bytes_rest x k f i = f (suc i)

cond_none : {A : Type 0} (t : Bool) (y : A) → cond t None (Some y) ≡ None → t ≡ true
cond_none true y e = refl
cond_none false y e = absurd cc

none_or : (b : ℕ) (r : Option (List ℕ)) → raised_from b r ≡ None → (b ≡ 255) × (r ≡ None)
none_or b (Some q) e = absurd cc
none_or b None e = (eqb-true b 255 (cond_none (eqb b 255) ((b + 1) ∷ []) e), refl)

one : (x b : ℕ) (o p : Ordering) (s : Bool) → MatchOrdering o (x < b) (x ≡ b) (b < x) → x < b + 1 → is_ge p ≡ s → is_ge (ordering_then o p) ≡ (eqb x b && s)
one x b Less p s h lt e = grind (arith, nat_tests)
one x b Equal p s h lt e = rw (eq-eqb x b h) e
one x b Greater p s h lt e = absurd (omega (arith, h, lt))

all_last : (p k : List ℕ) → raised p ≡ None → AreBytes k → is_ge (bytes_cmp k p) ≡ begins_with p k
unfolding begins_with
all_last [] [] e f = refl
all_last [] (x ∷ k) e f = refl
all_last (b ∷ p) [] e f = refl
all_last (b ∷ p) (x ∷ k) e f =
    let n = none_or b (raised p) e in
    let small : x < b + 1 = omega (arith, f 0, n.0) in
    one x b (nat_cmp x b) (bytes_cmp k p) (begins_with p k) (ranked x b (nat_cmp x b) refl) small (all_last p k n.1 (bytes_rest x k f))

-- the first byte, the same in both ends
same_first : (x b : ℕ) (o p r : Ordering) (s : Bool) → MatchOrdering o (x < b) (x ≡ b) (b < x) → (is_ge p && is_lt r) ≡ s → (is_ge (ordering_then o p) && is_lt (ordering_then o r)) ≡ (eqb x b && s)
same_first x b Less p r s h e = grind (arith, nat_tests)
same_first x b Equal p r s h e = rw (eq-eqb x b h) e
same_first x b Greater p r s h e = grind (arith, nat_tests)

not_lt_none : (k : List ℕ) → is_lt (bytes_cmp k []) ≡ false
not_lt_none [] = refl
not_lt_none (x ∷ k) = refl

-- the first byte, one higher in the upper end
first_raised : (x b : ℕ) (o u p r : Ordering) (s : Bool) → MatchOrdering o (x < b) (x ≡ b) (b < x) → MatchOrdering u (x < b + 1) (x ≡ b + 1) (b + 1 < x) → is_ge p ≡ s → is_lt r ≡ false → (is_ge (ordering_then o p) && is_lt (ordering_then u r)) ≡ (eqb x b && s)
first_raised x b Less u p r s h v e f = grind (arith, nat_tests)
first_raised x b Equal Less p r s h v e f = rw (eq-eqb x b h, e) (and_true s)
first_raised x b Equal Equal p r s h v e f = absurd (omega (arith, h, v))
first_raised x b Equal Greater p r s h v e f = absurd (omega (arith, h, v))
first_raised x b Greater Less p r s h v e f = absurd (omega (arith, h, v))
first_raised x b Greater Equal p r s h v e f = rw f (grind (arith, nat_tests))
first_raised x b Greater Greater p r s h v e f = grind (arith, nat_tests)

step : (b : ℕ) (p q : List ℕ) (x : ℕ) (k : List ℕ) (r : Option (List ℕ)) → raised p ≡ r → raised_from b r ≡ Some q → AreBytes (x ∷ k) → ((t : List ℕ) → raised p ≡ Some t → is_between p t k ≡ begins_with p k) → is_between (b ∷ p) q (x ∷ k) ≡ begins_with (b ∷ p) (x ∷ k)
unfolding begins_with
step b p q x k (Some t) h e f ih =
    subst (λ (z : List ℕ). is_between (b ∷ p) z (x ∷ k) ≡ begins_with (b ∷ p) (x ∷ k)) (some_is (b ∷ t) q e)
    (same_first x b (nat_cmp x b) (bytes_cmp k p) (bytes_cmp k t) (begins_with p k) (ranked x b (nat_cmp x b) refl) (ih t h))
step b p q x k None h e f ih =
    let g = cond_some (eqb b 255) ((b + 1) ∷ []) q e in
    subst (λ (z : List ℕ). is_between (b ∷ p) z (x ∷ k) ≡ begins_with (b ∷ p) (x ∷ k)) g.1
    (first_raised x b (nat_cmp x b) (nat_cmp x (b + 1)) (bytes_cmp k p) (bytes_cmp k []) (begins_with p k) (ranked x b (nat_cmp x b) refl) (ranked x (b + 1) (nat_cmp x (b + 1)) refl) (all_last p k h (bytes_rest x k f)) (not_lt_none k))

between_begins : (p q k : List ℕ) → raised p ≡ Some q → AreBytes k → is_between p q k ≡ begins_with p k
unfolding begins_with
between_begins [] q k e f = absurd cc
between_begins (b ∷ p) q [] e f = refl
between_begins (b ∷ p) q (x ∷ k) e f = step b p q x k (raised p) refl e f (λ t h. between_begins p t k h (bytes_rest x k f))

pub interval : (p q k : List ℕ) → raised p ≡ Some q → AreBytes k → (IsTrue (is_between p q k) → StartsWith p k) × (StartsWith p k → IsTrue (is_between p q k))
interval p q k e f = let same = between_begins p q k e f in (λ h. begins-starts p k (sym same ∙ h), λ s. same ∙ starts-begins p k s)

pub unbounded : (p k : List ℕ) → raised p ≡ None → AreBytes k → (IsTrue (is_ge (bytes_cmp k p)) → StartsWith p k) × (StartsWith p k → IsTrue (is_ge (bytes_cmp k p)))
unbounded p k e f = let same = all_last p k e f in (λ h. begins-starts p k (sym same ∙ h), λ s. same ∙ starts-begins p k s)

-- ---- raising from the end

pub raised_none : (xs : List ℕ) (b : ℕ) → b ≡ 255 → raised (xs ++ b ∷ []) ≡ raised xs
raised_none [] b is = rw is refl
raised_none (x ∷ xs) b is = ap (raised_from x) (raised_none xs b is)

pub raised_last : (xs : List ℕ) (b : ℕ) → b < 255 → raised (xs ++ b ∷ []) ≡ Some (xs ++ (b + 1) ∷ [])
raised_last [] b low = go (eqb b 255) refl
  where
    go : (t : Bool) → eqb b 255 ≡ t → cond t None (Some ((b + 1) ∷ [])) ≡ Some ((b + 1) ∷ [])
    go true e = let is = eqb-true b 255 e in absurd (omega (arith, is, low))
    go false e = refl
raised_last (x ∷ xs) b low = ap (raised_from x) (raised_last xs b low)
