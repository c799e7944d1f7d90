-- The interval of a longer prefix is within that of a shorter one.
use Rattle.std.proofs.Common.{◌≡◌, ◌∙◌, ℕ, ◌+◌, ◌<◌, ◌==◌, Bool, true, false, cond, ltb, IsTrue, List, [], ◌∷◌, ◌++◌, Option, Some, None, Less, Equal, Greater, Ordering, refl, sym, ap, subst, arith}
use Rattle.std.specs.Cmp.{nat_cmp_is}
use Rattle.std.specs.Ordering.{is_ge, is_lt, nat_cmp, ordering_then}
use Rattle.std.proofs.lemmas.Bool.{ltb-false, ltb-true}
use Rattle.base_lemmas.proofs.Bools.{and_first as both_first, and_second as both_second, by_answer as pick}
use Rattle.std.proofs.lemmas.Option.{none-some as none_is, same_Some as some_is}
use Rattle.store_kv.specs.Prefixes.{raised, raised_from}
use Rattle.store_kv.specs.Tables.{bytes_cmp, is_between}
use Rattle.model.specs.Cases.{in_case}
use Rattle.store_abstraction.specs.Local.{is_under}

-- what a longer prefix is raised to
more_some : (a b up : List ℕ) → raised b ≡ Some up → raised (a ++ b) ≡ Some (a ++ up)
more_some [] b up e = e
more_some (x ∷ a) b up e = ap (raised_from x) (more_some a b up e)

more_none : (a b : List ℕ) → raised b ≡ None → raised (a ++ b) ≡ raised a
more_none [] b e = e
more_none (x ∷ a) b e = ap (raised_from x) (more_none a b e)

-- a key that isn't below a longer prefix isn't below the shorter one
from_shorter : (a b key : List ℕ) → is_ge (bytes_cmp key (a ++ b)) ≡ true → is_ge (bytes_cmp key a) ≡ true
from_shorter [] b [] h = refl
from_shorter [] b (y ∷ key) h = refl
from_shorter (x ∷ a) b [] h = absurd cc
from_shorter (x ∷ a) b (y ∷ key) h = by (from_shorter a b key) (nat_cmp y x) h
  where
    by : (is_ge (bytes_cmp key (a ++ b)) ≡ true → is_ge (bytes_cmp key a) ≡ true) → (o : Ordering) → is_ge (ordering_then o (bytes_cmp key (a ++ b))) ≡ true → is_ge (ordering_then o (bytes_cmp key a)) ≡ true
    by more Less h = absurd cc
    by more Equal h = more h
    by more Greater h = refl

-- a key below what begins with a prefix is below what that is raised to
below_shorter : (a more up key : List ℕ) → raised a ≡ Some up → is_lt (bytes_cmp key (a ++ more)) ≡ true → is_lt (bytes_cmp key up) ≡ true
below_shorter [] more up key e h = absurd (none_is up e)
below_shorter (x ∷ a) more up [] e h = first up e
  where
    first : (z : List ℕ) → raised (x ∷ a) ≡ Some z → is_lt (bytes_cmp [] z) ≡ true
    first [] g = none (raised a) g
      where
        none : (o : Option (List ℕ)) → raised_from x o ≡ Some [] → is_lt (bytes_cmp [] []) ≡ true
        none None g = last (x == 255) g
          where
            last : (b : Bool) → cond b None (Some ((x + 1) ∷ [])) ≡ Some [] → is_lt (bytes_cmp [] []) ≡ true
            last true g = absurd (none_is [] g)
            last false g = absurd cc
        none (Some us) g = absurd cc
    first (y ∷ z) g = refl
below_shorter (x ∷ a) more up (y ∷ key) e h = by (λ us g. below_shorter a more us key g) (raised a) refl e
  where
    further : (us : List ℕ) → (is_lt (bytes_cmp key (a ++ more)) ≡ true → is_lt (bytes_cmp key us) ≡ true) → (o : Ordering) → is_lt (ordering_then o (bytes_cmp key (a ++ more))) ≡ true → is_lt (ordering_then o (bytes_cmp key us)) ≡ true
    further us later Less h = refl
    further us later Equal h = later h
    further us later Greater h = absurd cc

    past : x < y → is_lt (ordering_then (nat_cmp y x) (bytes_cmp key (a ++ more))) ≡ true → is_lt (ordering_then (nat_cmp y (x + 1)) (bytes_cmp key [])) ≡ true
    past lt h = absurd (apart (ap (λ (o : Ordering). is_lt (ordering_then o (bytes_cmp key (a ++ more)))) (nat_cmp_is y x Greater lt) ∙ h))
      where
        apart : false ≡ true → ⊥
        apart e = cc

    last : (b : Bool) → cond b None (Some ((x + 1) ∷ [])) ≡ Some up → is_lt (bytes_cmp (y ∷ key) up) ≡ true
    last true g = absurd (none_is up g)
    last false g =
        subst (λ (z : List ℕ). is_lt (bytes_cmp (y ∷ key) z) ≡ true) (some_is ((x + 1) ∷ []) up g)
        (pick (ltb y (x + 1)) (λ _. is_lt (ordering_then (nat_cmp y (x + 1)) (bytes_cmp key [])) ≡ true)
        (λ lt. ap (λ (o : Ordering). is_lt (ordering_then o (bytes_cmp key []))) (sym (nat_cmp_is y (x + 1) Less (ltb-true y (x + 1) lt))))
        (λ ge. past (omega (arith, ltb-false y (x + 1) ge)) h))

    by : ((us : List ℕ) → raised a ≡ Some us → is_lt (bytes_cmp key (a ++ more)) ≡ true → is_lt (bytes_cmp key us) ≡ true)
        → (o : Option (List ℕ)) → raised a ≡ o → raised_from x o ≡ Some up → is_lt (bytes_cmp (y ∷ key) up) ≡ true
    by later None g e = last (x == 255) e
    by later (Some us) g e = subst (λ (z : List ℕ). is_lt (bytes_cmp (y ∷ key) z) ≡ true) (some_is (x ∷ us) up e) (further us (later us g) (nat_cmp y x) h)

-- a key of the interval of a longer prefix is under the shorter one
pub under_shorter : (a b above key : List ℕ) → raised (a ++ b) ≡ Some above → IsTrue (is_between (a ++ b) above key) → is_under a key ≡ true
under_shorter a b above key e inside = by (raised a) refl (raised b) refl
  where
    from : is_ge (bytes_cmp key a) ≡ true
    from = from_shorter a b key (both_first (is_ge (bytes_cmp key (a ++ b))) (is_lt (bytes_cmp key above)) inside)

    below : is_lt (bytes_cmp key above) ≡ true
    below = both_second (is_ge (bytes_cmp key (a ++ b))) (is_lt (bytes_cmp key above)) inside

    up_to : (up : List ℕ) → is_lt (bytes_cmp key up) ≡ true → is_between a up key ≡ true
    up_to up lt = rw (from, lt) refl

    by : (o : Option (List ℕ)) → raised a ≡ o → (p : Option (List ℕ)) → raised b ≡ p → in_case o (is_ge (bytes_cmp key a)) (λ up. is_between a up key) ≡ true
    by None g p k = from
    by (Some up) g None k = up_to up (subst (λ (z : List ℕ). is_lt (bytes_cmp key z) ≡ true) (some_is above up (sym e ∙ more_none a b k ∙ g)) below)
    by (Some up) g (Some more) k =
        up_to up (below_shorter a more up key g (subst (λ (z : List ℕ). is_lt (bytes_cmp key z) ≡ true) (some_is above (a ++ more) (sym e ∙ more_some a b more k)) below))
