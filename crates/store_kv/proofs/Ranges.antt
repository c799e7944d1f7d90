-- The entries of a range are those of an interval.
use Rattle.std.proofs.Common.{◌≡◌, ℕ, zero, suc, ◌-◌, ◌<◌, List, [], ◌∷◌, ◌++◌, Bool, true, false, not, ◌&&◌, ◌==◌, cond, Option, Some, None, Ordering, Less, Equal, Greater, nat_cmp, is_eq, is_lt, refl, sym, ap, ◌∙◌, true≢false, arith}
use Rattle.std.specs.Ordering.{is_ge, is_le, is_gt, ordering_then, ordering_reverse}
use Rattle.std.specs.Cmp.{nat_cmp_total, unsigned_Decides}
use Rattle.std.specs.Cmp.Lexicographic.{nat_list_cmp_total}
use Rattle.std.proofs.lemmas.Cmp.{tied_itself}
use Rattle.std.specs.FinMap.{nat_cmp-IsAntisymmetric}
use Rattle.std.specs.BTreeMap.Range.{entries_between, range_contains}
use Rattle.std.specs.declared.ops.Bound.TheVariants.{Included, Excluded}
use Rattle.store_kv.specs.Tables.{Place, place_cmp, bytes_cmp, is_between, is_in}
use Rattle.store_kv.specs.Laid.{Entry, gap}
use Rattle.store_kv.specs.inner.Merging.{within, front, left}
use Rattle.store_kv.proofs.Walk.{one_table}
use Rattle.std.proofs.lemmas.Bool.{and_parts}

test_of : (n m : ℕ) (o : Ordering) → nat_cmp n m ≡ o → (m == n) ≡ is_eq o
test_of n m Equal e = (unsigned_Decides m n).1 (sym (nat_cmp-IsAntisymmetric n m e))
test_of n m Less e = by (m == n) refl
  where
    by : (b : Bool) → (m == n) ≡ b → b ≡ false
    by false is = refl
    by true is = absurd (true≢false (sym (ap is_eq (sym e ∙ ap (λ k. nat_cmp n k) ((unsigned_Decides m n).0 is) ∙ same n))))
      where
        same : (n : ℕ) → nat_cmp n n ≡ Equal
        same n = tied_itself nat_cmp_total n
test_of n m Greater e = by (m == n) refl
  where
    by : (b : Bool) → (m == n) ≡ b → b ≡ false
    by false is = refl
    by true is = absurd (true≢false (sym (ap is_eq (sym e ∙ ap (λ k. nat_cmp n k) ((unsigned_Decides m n).0 is) ∙ same n))))
      where
        same : (n : ℕ) → nat_cmp n n ≡ Equal
        same n = tied_itself nat_cmp_total n

turned_ge : (a b : Ordering) → a ≡ ordering_reverse b → is_ge a ≡ is_le b
turned_ge a Less e = ap is_ge e
turned_ge a Equal e = ap is_ge e
turned_ge a Greater e = ap is_ge e

turned_lt : (a b : Ordering) → a ≡ ordering_reverse b → is_lt a ≡ not (is_le b)
turned_lt a Less e = ap is_lt e
turned_lt a Equal e = ap is_lt e
turned_lt a Greater e = ap is_lt e

contains : (t : ℕ) (from below : List ℕ) (p : Place) → range_contains place_cmp (Included (t, from)) (Excluded (t, below)) p ≡ is_in t from below p
contains t from below p = go (nat_cmp t p.0) refl
  where
    go : (o : Ordering) → nat_cmp t p.0 ≡ o → (is_le (ordering_then (nat_cmp t p.0) (bytes_cmp from p.1)) && not (is_le (ordering_then (nat_cmp t p.0) (bytes_cmp below p.1)))) ≡ ((p.0 == t) && is_between from below p.1)
    go Less e = ap (λ o. is_le (ordering_then o (bytes_cmp from p.1)) && not (is_le (ordering_then o (bytes_cmp below p.1)))) e ∙ sym (ap (λ b. b && is_between from below p.1) (test_of t p.0 Less e))
    go Greater e = ap (λ o. is_le (ordering_then o (bytes_cmp from p.1)) && not (is_le (ordering_then o (bytes_cmp below p.1)))) e ∙ sym (ap (λ b. b && is_between from below p.1) (test_of t p.0 Greater e))
    go Equal e =
        ap (λ o. is_le (ordering_then o (bytes_cmp from p.1)) && not (is_le (ordering_then o (bytes_cmp below p.1)))) e
        ∙ ap (λ b. b && not (is_le (bytes_cmp below p.1))) (sym (turned_ge (bytes_cmp p.1 from) (bytes_cmp from p.1) (nat_list_cmp_total.antisymm p.1 from)))
        ∙ ap (λ b. is_ge (bytes_cmp p.1 from) && b) (sym (turned_lt (bytes_cmp p.1 below) (bytes_cmp below p.1) (nat_list_cmp_total.antisymm p.1 below)))
        ∙ sym (ap (λ b. b && is_between from below p.1) (test_of t p.0 Equal e))

pub range_within : (t : ℕ) (from below : List ℕ) (es : List Entry) → entries_between place_cmp (Included (t, from)) (Excluded (t, below)) es ≡ within t from below es
range_within t from below [] = refl
range_within t from below (e ∷ es) =
    ap (λ b. cond b (e ∷ entries_between place_cmp (Included (t, from)) (Excluded (t, below)) es) (entries_between place_cmp (Included (t, from)) (Excluded (t, below)) es)) (contains t from below e.0)
    ∙ ap (λ l. cond (is_in t from below e.0) (e ∷ l) l) (range_within t from below es)

pub front_none : (n : ℕ) (es : List Entry) → n ≡ 0 → front n es ≡ []
front_none n [] h = refl
front_none zero (e ∷ es) h = refl
front_none (suc n) (e ∷ es) h = absurd (omega (arith, h))

pub front_step : (n : ℕ) (e : Entry) (es : List Entry) → 0 < n → front n (e ∷ es) ≡ e ∷ front (n - (1 - gap e.1)) es
front_step zero e es low = absurd (omega (arith, low))
front_step (suc n) e es low = ap (λ m. e ∷ front m es) (by e.1)
  where
    by : (r : Option (List ℕ)) → left r n ≡ suc n - (1 - gap r)
    by (Some r) = omega arith
    by None = omega arith

-- from a place that is not below the other no entry is within
pub within_none : (t : ℕ) (from below : List ℕ) (es : List Entry) → is_lt (bytes_cmp from below) ≡ false → within t from below es ≡ []
within_none t from below [] h = refl
within_none t from below (e ∷ es) h = ap (λ b. cond b (e ∷ within t from below es) (within t from below es)) (out e.0) ∙ within_none t from below es h
  where
    out : (p : Place) → is_in t from below p ≡ false
    out p = go (is_in t from below p) refl
      where
        go : (b : Bool) → is_in t from below p ≡ b → b ≡ false
        go false is = refl
        go true is =
            let inside = and_parts _ _ (and_parts _ _ is).1 in
            absurd (true≢false (sym (lower (bytes_cmp p.1 from) refl inside.0 (less _ inside.1)) ∙ h))
          where
            less : (o : Ordering) → is_lt o ≡ true → o ≡ Less
            less Less e = refl
            less Equal e = absurd (true≢false (sym e))
            less Greater e = absurd (true≢false (sym e))

            lower : (o : Ordering) → bytes_cmp p.1 from ≡ o → is_ge o ≡ true → bytes_cmp p.1 below ≡ Less → is_lt (bytes_cmp from below) ≡ true
            lower Less e ge l = absurd (true≢false (sym ge))
            lower Equal e ge l = ap is_lt (sym (nat_list_cmp_total.congr p.1 from below e) ∙ l)
            lower Greater e ge l = ap is_lt (nat_list_cmp_total.trans from p.1 below (nat_list_cmp_total.antisymm from p.1 ∙ ap ordering_reverse e) l)

pub forward : (t : ℕ) (from below : List ℕ) → is_lt (bytes_cmp from below) ≡ true → is_gt (place_cmp (t, from) (t, below)) ≡ false
forward t from below h = ap is_gt (one_table t from below) ∙ go (bytes_cmp from below) h
  where
    go : (o : Ordering) → is_lt o ≡ true → is_gt o ≡ false
    go Less e = refl
    go Equal e = refl
    go Greater e = absurd (true≢false (sym e))

pub within_of : (t : ℕ) (from below : List ℕ) (first end : Place) (es held : List Entry) → first ≡ (t, from) → end ≡ (t, below) → held ≡ entries_between place_cmp (Included first) (Excluded end) es → held ≡ within t from below es
within_of t from below first end es held a b is =
    is ∙ ap (λ (p : Place). entries_between place_cmp (Included p) (Excluded end) es) a ∙ ap (λ (p : Place). entries_between place_cmp (Included (t, from)) (Excluded p) es) b ∙ range_within t from below es

pub append_none : {X : Type 0} (xs ys : List X) → ys ≡ [] → xs ++ ys ≡ xs
append_none [] ys h = h
append_none (x ∷ xs) ys h = ap (λ l. x ∷ l) (append_none xs ys h)

pub append_one : {X : Type 0} (xs : List X) (x : X) (ys : List X) → (xs ++ x ∷ []) ++ ys ≡ xs ++ x ∷ ys
append_one [] x ys = refl
append_one (z ∷ xs) x ys = ap (λ l. z ∷ l) (append_one xs x ys)
