-- What is among lists of ids: two lists in strict order that have the same ids are one.
use Rattle.std.proofs.Common.{◌≡◌, ℕ, Bool, true, T, List, [], ◌∷◌, ◌++◌, map, refl, sym, ap, subst, ◌∙◌, inl, inr, Less, Equal, Ordering}
use Rattle.std.specs.Prelude.{◌⊎◌}
use Rattle.std.specs.Cmp.Lexicographic.{slice_cmp}
use Rattle.std.specs.FinMap.{is_sorted}
use Rattle.std.specs.FinMap.Entries.{below_all}
use Rattle.std.specs.List.{AllByRecursion, flat_map, list_any}
use Rattle.std.specs.List.Sorted.{IsStrictlySortedBy}
use Rattle.std.specs.Ordering.{is_eq, is_lt, nat_cmp}
use Rattle.std.proofs.lemmas.Cmp.{nat_list_cmp_total, tied_itself}
use Rattle.std.proofs.lemmas.Bool.{or_left, or_right, or_cases as or_either}
use Rattle.base_lemmas.proofs.Bools.{T-and_first as t_first, T-and_second as t_second, true_from_T as t_true}
use Rattle.base_lemmas.proofs.Lists.{is_eq-slice_cmp_self as cmp_itself, same_from_slice_cmp as cmp_eq}
use Rattle.base_lemmas.proofs.Orders.{less_from_is_lt as is_less}
use Rattle.model.specs.declared.record.Record.{Record}
use Rattle.model.specs.Membership.{Has}
use Rattle.model.specs.SoundPeople.{ids_rise}
use Rattle.model.specs.SoundRecords.{record_id}
use Rattle.record_read.proofs.Lists.{of_each}
use Rattle.record_cascade.specs.inner.Masters.{is_among}

-- the ids of records
abbrev pub record_ids : List Record → List (List ℕ)
record_ids rs = map (λ r. r.id) rs

pub has_any : {X : Type 0} (p : X → Bool) (xs : List X) (x : X) → Has xs x → p x ≡ true → list_any p xs ≡ true
has_any p [] x h so = absurd h
has_any {X = X} p (y ∷ ys) x (inl e) so = or_left (p y) (list_any p ys) (subst (λ (z : X). p z ≡ true) e so)
has_any p (y ∷ ys) x (inr h) so = or_right (p y) (list_any p ys) (has_any p ys x h so)

pub any_has : {X : Type 0} (p : X → Bool) (xs : List X) → list_any p xs ≡ true → (x : X) × Has xs x × (p x ≡ true)
any_has p [] e = absurd cc
any_has {X = X} p (y ∷ ys) e = by (or_either (p y) (list_any p ys) e) (any_has p ys)
  where
    by : (p y ≡ true) ⊎ (list_any p ys ≡ true) → (list_any p ys ≡ true → (x : X) × Has ys x × (p x ≡ true)) → (x : X) × Has (y ∷ ys) x × (p x ≡ true)
    by (inl so) rest = (y, inl refl, so)
    by (inr more) rest = let (x, h, so) = rest more in (x, inr h, so)

pub has_append : {X : Type 0} (xs ys : List X) (x : X) → Has xs x ⊎ Has ys x → Has (xs ++ ys) x
has_append [] ys x (inl h) = absurd h
has_append [] ys x (inr h) = h
has_append (z ∷ xs) ys x (inl (inl e)) = inl e
has_append (z ∷ xs) ys x (inl (inr h)) = inr (has_append xs ys x (inl h))
has_append (z ∷ xs) ys x (inr h) = inr (has_append xs ys x (inr h))

pub append_has : {X : Type 0} (xs ys : List X) (x : X) → Has (xs ++ ys) x → Has xs x ⊎ Has ys x
append_has [] ys x h = inr h
append_has (z ∷ xs) ys x (inl e) = inl (inl e)
append_has {X = X} (z ∷ xs) ys x (inr h) = by (append_has xs ys x h)
  where
    by : Has xs x ⊎ Has ys x → Has (z ∷ xs) x ⊎ Has ys x
    by (inl g) = inl (inr g)
    by (inr g) = inr g

pub has_flat : {X Y : Type 0} (f : X → List Y) (xs : List X) (x : X) (y : Y) → Has xs x → Has (f x) y → Has (flat_map f xs) y
has_flat f [] x y h g = absurd h
has_flat {X = X} {Y = Y} f (z ∷ xs) x y (inl e) g = has_append (f z) (flat_map f xs) y (inl (subst (λ (w : X). Has (f w) y) e g))
has_flat f (z ∷ xs) x y (inr h) g = has_append (f z) (flat_map f xs) y (inr (has_flat f xs x y h g))

pub flat_has : {X Y : Type 0} (f : X → List Y) (xs : List X) (y : Y) → Has (flat_map f xs) y → (x : X) × Has xs x × Has (f x) y
flat_has f [] y h = absurd h
flat_has {X = X} {Y = Y} f (z ∷ xs) y h = by (append_has (f z) (flat_map f xs) y h) (flat_has f xs y)
  where
    by : Has (f z) y ⊎ Has (flat_map f xs) y → (Has (flat_map f xs) y → (x : X) × Has xs x × Has (f x) y) → (x : X) × Has (z ∷ xs) x × Has (f x) y
    by (inl g) rest = (z, inl refl, g)
    by (inr g) rest = let (x, has, so) = rest g in (x, inr has, so)

pub has_id_of : (rs : List Record) (r : Record) → Has rs r → Has (record_ids rs) r.id
has_id_of [] r h = absurd h
has_id_of (x ∷ rs) r (inl e) = inl (ap (λ (y : Record). y.id) e)
has_id_of (x ∷ rs) r (inr h) = inr (has_id_of rs r h)

pub id_of_has : (rs : List Record) (i : List ℕ) → Has (record_ids rs) i → (r : Record) × Has rs r × (i ≡ r.id)
id_of_has [] i h = absurd h
id_of_has (x ∷ rs) i (inl e) = (x, inl refl, e)
id_of_has (x ∷ rs) i (inr h) = let (r, has, e) = id_of_has rs i h in (r, inr has, e)

pub has_among : (ids : List (List ℕ)) (i : List ℕ) → Has ids i → is_among ids i ≡ true
has_among ids i h = has_any (λ j. is_eq (slice_cmp nat_cmp i j)) ids i h (cmp_itself i)

pub among_has : (ids : List (List ℕ)) (i : List ℕ) → is_among ids i ≡ true → Has ids i
among_has ids i e =
    let (j, h, so) = any_has (λ j. is_eq (slice_cmp nat_cmp i j)) ids e in
    subst (λ (k : List ℕ). Has ids k) (sym (cmp_eq i j so)) h

-- two lists in strict order that have the same ids are one
not_below : (i : List ℕ) (is : List (List ℕ)) → AllByRecursion (λ j. slice_cmp nat_cmp i j ≡ Less) is → Has is i → ⊥
not_below i is all h = let e = of_each (λ (j : List ℕ). slice_cmp nat_cmp i j ≡ Less) is i all h in differ (sym e ∙ tied_itself nat_list_cmp_total i)
  where
    differ : ◌≡◌ {A = Ordering} Less Equal → ⊥
    differ e = cc

pub same_sorted : (xs ys : List (List ℕ)) → IsStrictlySortedBy (slice_cmp nat_cmp) xs → IsStrictlySortedBy (slice_cmp nat_cmp) ys
    → ((i : List ℕ) → Has xs i → Has ys i) → ((i : List ℕ) → Has ys i → Has xs i) → xs ≡ ys
unfolding IsStrictlySortedBy
same_sorted [] [] hx hy f g = refl
same_sorted [] (y ∷ ys) hx hy f g = absurd (g y (inl refl))
same_sorted (x ∷ xs) [] hx hy f g = absurd (f x (inl refl))
same_sorted (x ∷ xs) (y ∷ ys) hx hy f g =
    let head = heads (f x (inl refl)) (g y (inl refl)) in
    ap (λ (k : List ℕ). k ∷ xs) head ∙ ap (λ (ks : List (List ℕ)). y ∷ ks) (same_sorted xs ys hx.1 hy.1 (λ i h. onward i h head (f i (inr h))) (λ i h. backward i h head (g i (inr h))))
  where
    heads : Has (y ∷ ys) x → Has (x ∷ xs) y → x ≡ y
    heads (inl e) h = e
    heads (inr a) (inl e) = sym e
    heads (inr a) (inr b) =
        let less = of_each (λ (j : List ℕ). slice_cmp nat_cmp y j ≡ Less) ys x hy.0 a in
        let back = of_each (λ (j : List ℕ). slice_cmp nat_cmp x j ≡ Less) xs y hx.0 b in
        absurd (differ (sym (nat_list_cmp_total.trans x y x back less) ∙ tied_itself nat_list_cmp_total x))
      where
        differ : ◌≡◌ {A = Ordering} Less Equal → ⊥
        differ e = cc

    onward : (i : List ℕ) → Has xs i → x ≡ y → Has (y ∷ ys) i → Has ys i
    onward i h head (inr k) = k
    onward i h head (inl e) = absurd (not_below x xs hx.0 (subst (λ (k : List ℕ). Has xs k) (e ∙ sym head) h))

    backward : (i : List ℕ) → Has ys i → x ≡ y → Has (x ∷ xs) i → Has xs i
    backward i h head (inr k) = k
    backward i h head (inl e) = absurd (not_below y ys hy.0 (subst (λ (k : List ℕ). Has ys k) (e ∙ head) h))

pub ids_sorted : (rs : List Record) → T (ids_rise record_id rs) → IsStrictlySortedBy (slice_cmp nat_cmp) (record_ids rs)
unfolding IsStrictlySortedBy
ids_sorted [] h = tt
ids_sorted (r ∷ rs) h =
    let pairs = map (λ (x : Record). (record_id x, x)) rs in
    (all_above r.id rs (t_first (below_all (slice_cmp nat_cmp) r.id pairs) (is_sorted (slice_cmp nat_cmp) pairs) h), ids_sorted rs (t_second (below_all (slice_cmp nat_cmp) r.id pairs) (is_sorted (slice_cmp nat_cmp) pairs) h))
  where
    all_above : (i : List ℕ) (xs : List Record) → T (below_all (slice_cmp nat_cmp) i (map (λ (x : Record). (record_id x, x)) xs)) → AllByRecursion (λ j. slice_cmp nat_cmp i j ≡ Less) (record_ids xs)
    all_above i [] h = tt
    all_above i (x ∷ xs) h =
        let pairs = map (λ (x : Record). (record_id x, x)) xs in (
          is_less (slice_cmp nat_cmp i x.id) (t_true (is_lt (slice_cmp nat_cmp i x.id)) (t_first (is_lt (slice_cmp nat_cmp i x.id)) (below_all (slice_cmp nat_cmp) i pairs) h)),
          all_above i xs (t_second (is_lt (slice_cmp nat_cmp i x.id)) (below_all (slice_cmp nat_cmp) i pairs) h),
        )
