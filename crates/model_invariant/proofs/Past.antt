-- The records of a list in the order of ids that are past the last of its first ones are the others.
use Rattle.std.proofs.Common.{◌≡◌, ℕ, zero, suc, Bool, true, false, cond, T, List, [], ◌∷◌, map, filter, take, drop, Option, Some, None, refl, sym, ap, subst, ◌∙◌, inl, inr, Ordering}
use Rattle.std.specs.FinMap.{is_sorted}
use Rattle.std.specs.FinMap.Entries.{below_all}
use Rattle.std.specs.Ordering.{is_lt, nat_cmp}
use Rattle.std.specs.Cmp.Lexicographic.{slice_cmp}
use Rattle.std.proofs.lemmas.Cmp.{nat_list_cmp_total, tied_itself}
use Rattle.std.proofs.lemmas.Bool.{true≢false as clash}
use Rattle.base_lemmas.proofs.Bools.{by_answer as pick, T-and_first as first, T-and_second as second, true_from_T as is_true, T-and_from as both}
use Rattle.base_lemmas.proofs.Orders.{less_from_is_lt as is_less}
use Rattle.model.specs.declared.record.Record.{Record}
use Rattle.model.specs.Jobs.{is_past, last_id}
use Rattle.model.specs.Membership.{Has}
use Rattle.model.specs.SoundPeople.{ids_rise}
use Rattle.model.specs.SoundRecords.{record_id}

abbrev compare : List ℕ → List ℕ → Ordering
compare a b = slice_cmp nat_cmp a b

abbrev with_ids : List Record → List (List ℕ × Record)
with_ids rs = map (λ (r : Record). (record_id r, r)) rs

abbrev pub Rises : List Record → Type 0
Rises rs = T (ids_rise record_id rs)

-- ---- tests as types

-- ---- less

itself : (a : List ℕ) → is_lt (compare a a) ≡ false
itself a = ap is_lt (tied_itself nat_list_cmp_total a)

not_back : (a b : List ℕ) → is_lt (compare a b) ≡ true → is_lt (compare b a) ≡ false
not_back a b less =
    pick (is_lt (compare b a)) (λ c. is_lt (compare b a) ≡ c → is_lt (compare b a) ≡ false)
    (λ _ back. absurd (clash (sym (ap is_lt (nat_list_cmp_total.trans a b a (is_less (compare a b) less) (is_less (compare b a) back))) ∙ itself a)))
    (λ _ e. e)
    refl

-- ---- lists in the order of ids

above : (x : Record) (rs : List Record) → Rises (x ∷ rs) → T (below_all (slice_cmp nat_cmp) x.id (with_ids rs))
above x rs h = first (below_all (slice_cmp nat_cmp) x.id (with_ids rs)) (is_sorted (slice_cmp nat_cmp) (with_ids rs)) h

pub rest_rises : (x : Record) (rs : List Record) → Rises (x ∷ rs) → Rises rs
rest_rises x rs h = second (below_all (slice_cmp nat_cmp) x.id (with_ids rs)) (is_sorted (slice_cmp nat_cmp) (with_ids rs)) h

below : (k : List ℕ) (rs : List Record) (r : Record) → T (below_all (slice_cmp nat_cmp) k (with_ids rs)) → Has rs r → is_lt (compare k r.id) ≡ true
below k [] r h has = absurd has
below k (x ∷ rs) r h (inl e) = subst (λ (y : Record). is_lt (compare k y.id) ≡ true) (sym e) (is_true (is_lt (compare k x.id)) (first (is_lt (compare k x.id)) (below_all (slice_cmp nat_cmp) k (with_ids rs)) h))
below k (x ∷ rs) r h (inr has) = below k rs r (second (is_lt (compare k x.id)) (below_all (slice_cmp nat_cmp) k (with_ids rs)) h) has

all_past : (k : List ℕ) (rs : List Record) → T (below_all (slice_cmp nat_cmp) k (with_ids rs)) → filter (λ r. is_past (Some k) r.id) rs ≡ rs
all_past k [] h = refl
all_past k (x ∷ rs) h =
    ap (λ b. cond b (x ∷ filter (λ r. is_past (Some k) r.id) rs) (filter (λ r. is_past (Some k) r.id) rs)) (is_true (is_lt (compare k x.id)) (first (is_lt (compare k x.id)) (below_all (slice_cmp nat_cmp) k (with_ids rs)) h))
    ∙ ap (λ (ys : List Record). x ∷ ys) (all_past k rs (second (is_lt (compare k x.id)) (below_all (slice_cmp nat_cmp) k (with_ids rs)) h))

below_filter : (k : List ℕ) (p : Record → Bool) (rs : List Record) → T (below_all (slice_cmp nat_cmp) k (with_ids rs)) → T (below_all (slice_cmp nat_cmp) k (with_ids (filter p rs)))
below_filter k p [] h = tt
below_filter k p (r ∷ rs) h =
    let less = first (is_lt (compare k r.id)) (below_all (slice_cmp nat_cmp) k (with_ids rs)) h in
    let rest = below_filter k p rs (second (is_lt (compare k r.id)) (below_all (slice_cmp nat_cmp) k (with_ids rs)) h) in
    pick (p r) (λ b. T (below_all (slice_cmp nat_cmp) k (with_ids (cond b (r ∷ filter p rs) (filter p rs)))))
    (λ _. both (is_lt (compare k r.id)) (below_all (slice_cmp nat_cmp) k (with_ids (filter p rs))) less rest)
    (λ _. rest)

pub rises_filter : (p : Record → Bool) (rs : List Record) → Rises rs → Rises (filter p rs)
rises_filter p [] h = tt
rises_filter p (r ∷ rs) h =
    let rest = rises_filter p rs (rest_rises r rs h) in
    pick (p r) (λ b. T (is_sorted (slice_cmp nat_cmp) (with_ids (cond b (r ∷ filter p rs) (filter p rs)))))
    (λ _. both (below_all (slice_cmp nat_cmp) r.id (with_ids (filter p rs))) (is_sorted (slice_cmp nat_cmp) (with_ids (filter p rs))) (below_filter r.id p rs (above r rs h)) rest)
    (λ _. rest)

-- ---- the last of some

-- the last is one of them
last_has : (x : Record) (rs : List Record) → (r : Record) × Has (x ∷ rs) r × (last_id (x ∷ rs) ≡ Some r.id)
last_has x [] = (x, inl refl, refl)
last_has x (y ∷ rs) = let (r, has, is) = last_has y rs in (r, inr has, is)

taken : {X : Type 0} (n : ℕ) (xs : List X) (x : X) → Has (take n xs) x → Has xs x
taken zero xs x h = absurd h
taken (suc n) [] x h = absurd h
taken (suc n) (y ∷ ys) x (inl e) = inl e
taken (suc n) (y ∷ ys) x (inr h) = inr (taken n ys x h)

pub past_taken : (n : ℕ) (rs : List Record) → Rises rs → filter (λ r. is_past (last_id (take n rs)) r.id) rs ≡ drop n rs
past_taken zero rs h = every rs
  where
    every : (rs : List Record) → filter (λ r. is_past None r.id) rs ≡ rs
    every [] = refl
    every (x ∷ rs) = ap (λ (ys : List Record). x ∷ ys) (every rs)
past_taken (suc n) [] h = refl
past_taken (suc n) (x ∷ rs) h = by (past_taken n rs (rest_rises x rs h)) (take n rs) refl
  where
    passing : Option (List ℕ) → List Record → List Record
    passing c xs = filter (λ r. is_past c r.id) xs

    -- the first isn't past what is above it, or itself
    without : (c : List ℕ) → is_lt (compare c x.id) ≡ false → passing (Some c) (x ∷ rs) ≡ passing (Some c) rs
    without c e = ap (λ b. cond b (x ∷ passing (Some c) rs) (passing (Some c) rs)) e

    alone : take n rs ≡ [] → rs ≡ drop n rs
    alone e = none n rs e
      where
        none : (n : ℕ) (xs : List Record) → take n xs ≡ [] → xs ≡ drop n xs
        none zero xs e = refl
        none (suc n) [] e = refl
        none (suc n) (y ∷ ys) e = absurd cc

    by : passing (last_id (take n rs)) rs ≡ drop n rs → (ys : List Record) → take n rs ≡ ys → passing (last_id (x ∷ ys)) (x ∷ rs) ≡ drop n rs
    by others [] e = without x.id (itself x.id) ∙ all_past x.id rs (above x rs h) ∙ alone e
    by others (y ∷ ys) e =
        let (r, has, is) = last_has y ys in
        let among : Has rs r = taken n rs r (subst (λ (zs : List Record). Has zs r) (sym e) has) in
        ap (λ (c : Option (List ℕ)). passing c (x ∷ rs)) is
        ∙ without r.id (not_back x.id r.id (below x.id rs r (above x rs h) among))
        ∙ ap (λ (c : Option (List ℕ)). passing c rs) (sym is ∙ ap last_id (sym e))
        ∙ others
