-- Records in the order of their ids, and those of them that pass a test.
use Rattle.std.proofs.Common.{◌≡◌, ℕ, zero, suc, Bool, true, false, cond, T, List, [], ◌∷◌, map, take, Some, refl, sym, ap, subst, ◌∙◌, inl, inr, Less, Equal, Greater, Ordering}
use Rattle.std.specs.FinMap.{is_sorted}
use Rattle.std.specs.FinMap.Entries.{below_all}
use Rattle.std.specs.List.{filter}
use Rattle.std.specs.Ordering.{is_ge, is_lt}
use Rattle.std.specs.Str.{bytes_eq}
use Rattle.std.proofs.lemmas.Cmp.{nat_list_cmp_total, tied_itself}
use Rattle.std.proofs.lemmas.Slice.Eq.{bytes_eq-Decides}
use Rattle.base_lemmas.proofs.Bools.{T-and_first as t_first, T-and_second as t_second, true_from_T as t_true, T-and_from as t_both, by_answer as pick}
use Rattle.store_kv.specs.Tables.{bytes_cmp}
use Rattle.model.specs.declared.record.Record.{Record}
use Rattle.model.specs.Membership.{Has}
use Rattle.model.specs.SoundPeople.{ids_rise}
use Rattle.model.specs.SoundRecords.{record_id}
use Rattle.model.specs.World.{having_id}

-- ---- tests as types

-- ---- those that pass a test

pub has_filter : {X : Type 0} (p : X → Bool) (xs : List X) (x : X) → Has (filter p xs) x → Has xs x × (p x ≡ true)
has_filter p [] x h = absurd h
has_filter {X = X} p (y ∷ ys) x h =
    pick (p y) (λ b. p y ≡ b → Has (cond b (y ∷ filter p ys) (filter p ys)) x → Has (y ∷ ys) x × (p x ≡ true))
    (λ _ passes here. in_front (has_filter p ys x) passes here)
    (λ _ _ there. let (has, so) = has_filter p ys x there in (inr has, so))
    refl h
  where
    in_front : (Has (filter p ys) x → Has ys x × (p x ≡ true)) → p y ≡ true → Has (y ∷ filter p ys) x → Has (y ∷ ys) x × (p x ≡ true)
    in_front rest passes (inl e) = (inl e, subst (λ (z : X). p z ≡ true) (sym e) passes)
    in_front rest passes (inr g) = let (has, so) = rest g in (inr has, so)

pub filter_has : {X : Type 0} (p : X → Bool) (xs : List X) (x : X) → Has xs x → p x ≡ true → Has (filter p xs) x
filter_has p [] x h so = absurd h
filter_has {X = X} p (y ∷ ys) x (inl e) so = rw (subst (λ (z : X). p z ≡ true) e so) (inl e)
filter_has p (y ∷ ys) x (inr h) so =
    pick (p y) (λ b. Has (cond b (y ∷ filter p ys) (filter p ys)) x) (λ _. inr (filter_has p ys x h so)) (λ _. filter_has p ys x h so)

pub has_take : {X : Type 0} (n : ℕ) (xs : List X) (x : X) → Has (take n xs) x → Has xs x
has_take zero xs x h = absurd h
has_take (suc n) [] x h = absurd h
has_take (suc n) (y ∷ ys) x (inl e) = inl e
has_take (suc n) (y ∷ ys) x (inr h) = inr (has_take n ys x h)

-- ---- the order of ids

abbrev with_ids : List Record → List (List ℕ × Record)
with_ids rs = map (λ (r : Record). (record_id r, r)) rs

below_filter : (k : List ℕ) (p : Record → Bool) (rs : List Record) → T (below_all bytes_cmp k (with_ids rs)) → T (below_all bytes_cmp k (with_ids (filter p rs)))
below_filter k p [] h = tt
below_filter k p (r ∷ rs) h =
    let less = t_first (is_lt (bytes_cmp k r.id)) (below_all bytes_cmp k (with_ids rs)) h in
    let rest = below_filter k p rs (t_second (is_lt (bytes_cmp k r.id)) (below_all bytes_cmp k (with_ids rs)) h) in
    pick (p r) (λ b. T (below_all bytes_cmp k (with_ids (cond b (r ∷ filter p rs) (filter p rs)))))
    (λ _. t_both (is_lt (bytes_cmp k r.id)) (below_all bytes_cmp k (with_ids (filter p rs))) less rest)
    (λ _. rest)

pub rise_filter : (p : Record → Bool) (rs : List Record) → T (ids_rise record_id rs) → T (ids_rise record_id (filter p rs))
rise_filter p [] h = tt
rise_filter p (r ∷ rs) h =
    let above = t_first (below_all bytes_cmp r.id (with_ids rs)) (is_sorted bytes_cmp (with_ids rs)) h in
    let rest = rise_filter p rs (t_second (below_all bytes_cmp r.id (with_ids rs)) (is_sorted bytes_cmp (with_ids rs)) h) in
    pick (p r) (λ b. T (is_sorted bytes_cmp (with_ids (cond b (r ∷ filter p rs) (filter p rs)))))
    (λ _. t_both (below_all bytes_cmp r.id (with_ids (filter p rs))) (is_sorted bytes_cmp (with_ids (filter p rs))) (below_filter r.id p rs above) rest)
    (λ _. rest)

pub below_has : (k : List ℕ) (rs : List Record) (r : Record) → T (below_all bytes_cmp k (with_ids rs)) → Has rs r → is_lt (bytes_cmp k r.id) ≡ true
below_has k [] r h has = absurd has
below_has k (x ∷ rs) r h (inl e) = subst (λ (y : Record). is_lt (bytes_cmp k y.id) ≡ true) (sym e) (t_true (is_lt (bytes_cmp k x.id)) (t_first (is_lt (bytes_cmp k x.id)) (below_all bytes_cmp k (with_ids rs)) h))
below_has k (x ∷ rs) r h (inr has) = below_has k rs r (t_second (is_lt (bytes_cmp k x.id)) (below_all bytes_cmp k (with_ids rs)) h) has

pub not_less : (a : List ℕ) → is_lt (bytes_cmp a a) ≡ true → ⊥
not_less a h = differ (sym (ap is_lt (tied_itself nat_list_cmp_total a)) ∙ h)
  where
    differ : false ≡ true → ⊥
    differ e = cc

-- a record is found by its id
pub found_itself : (rs : List Record) (r : Record) → T (ids_rise record_id rs) → Has rs r → having_id (λ r. r.id) rs r.id ≡ Some r
found_itself [] r h has = absurd has
found_itself (x ∷ rs) r h (inl e) = subst (λ (y : Record). having_id (λ r. r.id) (x ∷ rs) y.id ≡ Some y) (sym e) (rw ((bytes_eq-Decides x.id x.id).1 refl) refl)
found_itself (x ∷ rs) r h (inr has) =
    let above = t_first (below_all bytes_cmp x.id (with_ids rs)) (is_sorted bytes_cmp (with_ids rs)) h in
    let rest = found_itself rs r (t_second (below_all bytes_cmp x.id (with_ids rs)) (is_sorted bytes_cmp (with_ids rs)) h) has in
    pick (bytes_eq r.id x.id) (λ b. bytes_eq r.id x.id ≡ b → cond b (Some x) (having_id (λ r. r.id) rs r.id) ≡ Some r)
    (λ _ same. absurd (not_less x.id (subst (λ (i : List ℕ). is_lt (bytes_cmp x.id i) ≡ true) ((bytes_eq-Decides r.id x.id).0 same) (below_has x.id rs r above has))))
    (λ _ _. rest)
    refl

-- what is above a key that is not below a prefix isn't below it either
pub still_above : (a b p : List ℕ) → is_lt (bytes_cmp a b) ≡ true → is_ge (bytes_cmp a p) ≡ true → is_ge (bytes_cmp b p) ≡ true
still_above a b p less above = by (bytes_cmp b p) refl
  where
    is_less : (o : Ordering) → is_lt o ≡ true → o ≡ Less
    is_less Less h = refl
    is_less Equal h = absurd cc
    is_less Greater h = absurd cc

    differ : false ≡ true → ⊥
    differ e = cc

    by : (o : Ordering) → bytes_cmp b p ≡ o → is_ge o ≡ true
    by Less e = absurd (differ (sym (ap is_ge (nat_list_cmp_total.trans a b p (is_less (bytes_cmp a b) less) e)) ∙ above))
    by Equal e = refl
    by Greater e = refl
