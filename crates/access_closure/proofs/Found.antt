-- The place of an id: what is found at it, and that a binary search finds it.
use Rattle.std.proofs.Common.{◌≡◌, ◌∙◌, ℕ, zero, suc, ◌<◌, ◌≤◌, Bool, true, false, ◌&&◌, cond, List, [], ◌∷◌, length, map, slice_index_or, refl, sym, ap, subst, ◌⊎◌, inl, inr, arith, T, Option, Some, None}
use Rattle.std.specs.Prelude.{Result, Ok, Err, slice_get, bytes_eq}
use Rattle.std.specs.Option.{option_map}
use Rattle.std.specs.Result.{result_ok}
use Rattle.std.specs.declared.cmp.Ordering.{Ordering}
use Rattle.std.specs.declared.cmp.Ordering.TheVariants.{Less, Equal, Greater}
use Rattle.std.specs.Cmp.Lexicographic.{slice_cmp, nat_list_cmp_total}
use Rattle.std.specs.FinMap.Entries.{below_all}
use Rattle.std.specs.List.Sorted.{IsBinarySearchResult, IsSearchInRange}
use Rattle.std.specs.Ordering.{is_eq, is_lt, nat_cmp, ordering_index, ordering_reverse}
use Rattle.std.proofs.lemmas.Cmp.{tied_itself}
use Rattle.std.proofs.lemmas.Map.Text.{is_eq-slice_cmp}
use Rattle.std.proofs.lemmas.Option.{slice_get-get_or, slice_get_within, same_Some as some_is}
use Rattle.std.proofs.lemmas.Slice.Eq.{bytes_eq-Decides}
use Rattle.std.proofs.lemmas.Bool.{cases_Bool as either}
use Rattle.model.specs.SoundPeople.{ids_rise}
use Rattle.model.specs.World.{having_id}
use Rattle.access_closure.specs.Places.{place_of_id}

abbrev compare : List ℕ → List ℕ → Ordering
compare = slice_cmp nat_cmp

-- ---- what is found

-- at the place of an id is what has it, which is the first of the list that does
pub record IsFound {X : Type 0} (id : X → List ℕ) (xs : List X) (i : List ℕ) (n : ℕ) (x : X) : Type 0 where
  pub place : place_of_id id xs i ≡ Some n
  pub at : slice_get xs n ≡ Some x
  pub id_is : id x ≡ i
  pub having : having_id id xs i ≡ Some x

module _ {X : Type 0} (id : X → List ℕ) where
  here : (x : X) (xs : List X) (i : List ℕ) → bytes_eq i (id x) ≡ true → IsFound id (x ∷ xs) i zero x
  here x xs i e = record {
    place = ap (λ b. cond b (Some zero) (option_map suc (place_of_id id xs i))) e;
    at = refl;
    id_is = sym ((bytes_eq-Decides i (id x)).0 e);
    having = ap (λ b. cond b (Some x) (having_id id xs i)) e;
  }

  later : (y : X) (xs : List X) (i : List ℕ) (n : ℕ) (x : X) → bytes_eq i (id y) ≡ false → IsFound id xs i n x → IsFound id (y ∷ xs) i (suc n) x
  later y xs i n x e f = record {
    place = ap (λ b. cond b (Some zero) (option_map suc (place_of_id id xs i))) e ∙ ap (option_map suc) f.place;
    at = f.at;
    id_is = f.id_is;
    having = ap (λ b. cond b (Some y) (having_id id xs i)) e ∙ f.having;
  }

  -- by what is there
  pub found_having : (xs : List X) (i : List ℕ) (x : X) → having_id id xs i ≡ Some x → (n : ℕ) × IsFound id xs i n x
  found_having [] i x e = absurd cc
  found_having (y ∷ xs) i x e = at (found_having xs i x) (either (bytes_eq i (id y)))
    where
      at : (having_id id xs i ≡ Some x → (n : ℕ) × IsFound id xs i n x) → (bytes_eq i (id y) ≡ true) ⊎ (bytes_eq i (id y) ≡ false) → (n : ℕ) × IsFound id (y ∷ xs) i n x
      at rest (inl same) =
          let is : y ≡ x = some_is y x (sym (ap (λ b. cond b (Some y) (having_id id xs i)) same) ∙ e) in
          (zero, subst (IsFound id (y ∷ xs) i zero) is (here y xs i same))
      at rest (inr other) =
          let r = rest (sym (ap (λ b. cond b (Some y) (having_id id xs i)) other) ∙ e) in
          (suc r.0, later y xs i r.0 x other r.1)

  -- by its place
  pub found_place : (xs : List X) (i : List ℕ) (n : ℕ) → place_of_id id xs i ≡ Some n → (x : X) × IsFound id xs i n x
  found_place [] i n e = absurd cc
  found_place (y ∷ xs) i n e = at (found_place xs i) (either (bytes_eq i (id y)))
    where
      at : ((m : ℕ) → place_of_id id xs i ≡ Some m → (x : X) × IsFound id xs i m x) → (bytes_eq i (id y) ≡ true) ⊎ (bytes_eq i (id y) ≡ false) → (x : X) × IsFound id (y ∷ xs) i n x
      at rest (inl same) =
          let is : zero ≡ n = some_is zero n (sym (ap (λ b. cond b (Some zero) (option_map suc (place_of_id id xs i))) same) ∙ e) in
          (y, subst (λ (k : ℕ). IsFound id (y ∷ xs) i k y) is (here y xs i same))
      at rest (inr other) = more (place_of_id id xs i) refl (sym (ap (λ b. cond b (Some zero) (option_map suc (place_of_id id xs i))) other) ∙ e)
        where
          more : (o : Option ℕ) → place_of_id id xs i ≡ o → option_map suc o ≡ Some n → (x : X) × IsFound id (y ∷ xs) i n x
          more None is k = absurd cc
          more (Some m) is k =
              let r = rest m is in
              (r.0, subst (λ (j : ℕ). IsFound id (y ∷ xs) i j r.0) (some_is (suc m) n k) (later y xs i m r.0 other r.1))

  -- ---- where ids rise

  first : (a b : Bool) → T (a && b) → T a
  first true b h = tt
  first false b h = absurd h

  second : (a b : Bool) → T (a && b) → T b
  second true b h = h
  second false b h = absurd h

  is_less : (o : Ordering) → T (is_lt o) → o ≡ Less
  is_less Less h = refl
  is_less Equal h = absurd h
  is_less Greater h = absurd h

  abbrev keyed : List X → List (List ℕ × X)
  keyed xs = map (λ x. (id x, x)) xs

  -- what is at a place has a greater id than this
  below_at : (a : List ℕ) (xs : List X) (n : ℕ) (x : X) → T (below_all compare a (keyed xs)) → slice_get xs n ≡ Some x → compare a (id x) ≡ Less
  below_at a [] n x h e = absurd cc
  below_at a (y ∷ xs) zero x h e = ap (λ (z : X). compare a (id z)) (sym (some_is y x e)) ∙ is_less (compare a (id y)) (first (is_lt (compare a (id y))) (below_all compare a (keyed xs)) h)
  below_at a (y ∷ xs) (suc n) x h e = below_at a xs n x (second (is_lt (compare a (id y))) (below_all compare a (keyed xs)) h) e

  not_itself : (a b : List ℕ) → compare a b ≡ Less → bytes_eq b a ≡ false
  not_itself a b e = at (either (bytes_eq b a))
    where
      at : (bytes_eq b a ≡ true) ⊎ (bytes_eq b a ≡ false) → bytes_eq b a ≡ false
      at (inr other) = other
      at (inl same) =
          let tied : compare a a ≡ Equal = tied_itself nat_list_cmp_total a in
          let less : compare a a ≡ Less = ap (compare a) (sym ((bytes_eq-Decides b a).0 same)) ∙ e in
          absurd cc

  -- each is found at its place
  pub found_at : (xs : List X) (n : ℕ) (x : X) → T (ids_rise id xs) → slice_get xs n ≡ Some x → IsFound id xs (id x) n x
  found_at [] n x rise e = absurd cc
  found_at (y ∷ xs) zero x rise e =
      subst (λ (z : X). IsFound id (y ∷ xs) (id z) zero z) (some_is y x e) (here y xs (id y) ((bytes_eq-Decides (id y) (id y)).1 refl))
  found_at (y ∷ xs) (suc n) x rise e =
      let below = first (below_all compare (id y) (keyed xs)) (ids_rise id xs) rise in
      let more = second (below_all compare (id y) (keyed xs)) (ids_rise id xs) rise in
      later y xs (id x) n x (not_itself (id y) (id x) (below_at (id y) xs n x below e)) (found_at xs n x more e)

  -- what is further on has a greater id
  rising : (xs : List X) (m n : ℕ) (x y : X) → T (ids_rise id xs) → m < n → slice_get xs m ≡ Some x → slice_get xs n ≡ Some y → compare (id x) (id y) ≡ Less
  rising [] m n x y rise lt e f = absurd cc
  rising (z ∷ xs) m zero x y rise lt e f = absurd (omega (arith, lt))
  rising (z ∷ xs) zero (suc n) x y rise lt e f =
      let below = first (below_all compare (id z) (keyed xs)) (ids_rise id xs) rise in
      ap (λ (w : X). compare (id w) (id y)) (sym (some_is z x e)) ∙ below_at (id z) xs n y below f
  rising (z ∷ xs) (suc m) (suc n) x y rise lt e f =
      rising xs m n x y (second (below_all compare (id z) (keyed xs)) (ids_rise id xs) rise) (omega (arith, lt)) e f

  -- ---- a binary search

  flipped : (a b : List ℕ) (o : Ordering) → compare a b ≡ o → compare b a ≡ ordering_reverse o
  flipped a b o e = nat_list_cmp_total.antisymm b a ∙ ap ordering_reverse e

  equal_is : (a b : List ℕ) → compare a b ≡ Equal → a ≡ b
  equal_is a b e = (bytes_eq-Decides a b).0 (sym (is_eq-slice_cmp a b) ∙ ap is_eq e)

  -- an id before another one answers no later
  no_later : (i a b : List ℕ) → compare a b ≡ Less → ordering_index (compare a i) ≤ ordering_index (compare b i)
  no_later i a b less = by (compare a i) refl
    where
      by : (o : Ordering) → compare a i ≡ o → ordering_index (compare a i) ≤ ordering_index (compare b i)
      by Less e = let z : ordering_index (compare a i) ≡ 0 = ap ordering_index e in omega arith
      by Equal e =
          let one : ordering_index (compare a i) ≡ 1 = ap ordering_index e in
          let greater : compare b i ≡ Greater = ap (compare b) (sym (equal_is a i e)) ∙ flipped a b Less less in
          let two : ordering_index (compare b i) ≡ 2 = ap ordering_index greater in
          omega arith
      by Greater e =
          let one : ordering_index (compare a i) ≡ 2 = ap ordering_index e in
          let greater : compare b i ≡ Greater = flipped i b Less (nat_list_cmp_total.trans i a b (flipped a i Greater e) less) in
          let two : ordering_index (compare b i) ≡ 2 = ap ordering_index greater in
          omega arith

  -- a binary search by ids finds the place of an id, or that no one has it
  pub searched : (xs : List X) (i : List ℕ) (r : Result ℕ ℕ) → T (ids_rise id xs) → IsSearchInRange r (length xs) → IsBinarySearchResult (λ y. compare (id y) i) xs r
      → result_ok r ≡ place_of_id id xs i
  searched xs i (Ok n) rise within is = at (slice_get xs n) refl
    where
      at : (o : Option X) → slice_get xs n ≡ o → Some n ≡ place_of_id id xs i
      at None e = absurd (none (within_some xs n within) e)
        where
          within_some : (ys : List X) (k : ℕ) → k < length ys → (y : X) × (slice_get ys k ≡ Some y)
          within_some [] k lt = absurd (omega (arith, lt))
          within_some (y ∷ ys) zero lt = (y, refl)
          within_some (y ∷ ys) (suc k) lt = within_some ys k (omega (arith, lt))

          none : ((y : X) × (slice_get xs n ≡ Some y)) → slice_get xs n ≡ None → ⊥
          none y e = let f = y.1 in cc
      at (Some x) e =
          let here : x ≡ slice_index_or xs n x = some_is x (slice_index_or xs n x) (sym e ∙ slice_get-get_or xs n x within) in
          let same : id x ≡ i = equal_is (id x) i (ap (λ (z : X). compare (id z) i) here ∙ is x) in
          sym (subst (λ (j : List ℕ). place_of_id id xs j ≡ Some n) same (found_at xs n x rise e).place)
  searched xs i (Err k) rise within is = at (place_of_id id xs i) refl
    where
      up : (a b : ℕ) (d : X) → a ≤ b → b < length xs → ordering_index (compare (id (slice_index_or xs a d)) i) ≤ ordering_index (compare (id (slice_index_or xs b d)) i)
      up a b d le lt = by (order a b le)
        where
          order : (a b : ℕ) → a ≤ b → (a < b) ⊎ (a ≡ b)
          order zero zero le = inr refl
          order zero (suc b) le = inl (omega arith)
          order (suc a) zero le = absurd (omega (arith, le))
          order (suc a) (suc b) le = elim (order a b (omega (arith, le))) [ inl lt ↦ inl (omega (arith, lt)) | inr e ↦ inr (ap suc e) ]

          by : (a < b) ⊎ (a ≡ b) → ordering_index (compare (id (slice_index_or xs a d)) i) ≤ ordering_index (compare (id (slice_index_or xs b d)) i)
          by (inr e) = subst (λ (n : ℕ). ordering_index (compare (id (slice_index_or xs a d)) i) ≤ ordering_index (compare (id (slice_index_or xs n d)) i)) e (omega arith)
          by (inl less) =
              no_later i (id (slice_index_or xs a d)) (id (slice_index_or xs b d))
              (rising xs a b (slice_index_or xs a d) (slice_index_or xs b d) rise less (slice_get-get_or xs a d (omega (arith, less, lt))) (slice_get-get_or xs b d lt))

      at : (o : Option ℕ) → place_of_id id xs i ≡ o → None ≡ place_of_id id xs i
      at None e = sym e
      at (Some n) e = absurd (never (found_place xs i n e))
        where
          never : ((x : X) × IsFound id xs i n x) → ⊥
          never (x, f) = by (split n k)
            where
              lt : n < length xs
              lt = slice_get_within xs n x f.at

              here : x ≡ slice_index_or xs n x
              here = some_is x (slice_index_or xs n x) (sym f.at ∙ slice_get-get_or xs n x lt)

              tied : compare (id (slice_index_or xs n x)) i ≡ Equal
              tied = ap (λ (z : X). compare (id z) i) (sym here) ∙ ap (λ (a : List ℕ). compare a i) f.id_is ∙ tied_itself nat_list_cmp_total i

              split : (a b : ℕ) → (a < b) ⊎ (b ≤ a)
              split a zero = inr (omega arith)
              split zero (suc b) = inl (omega arith)
              split (suc a) (suc b) = elim (split a b) [ inl l ↦ inl (omega (arith, l)) | inr l ↦ inr (omega (arith, l)) ]

              by : (n < k) ⊎ (k ≤ n) → ⊥
              by (inl low) = let less : compare (id (slice_index_or xs n x)) i ≡ Less = (is up).0 n x (omega arith) low in let apart : Less ≡ Equal = sym less ∙ tied in cc
              by (inr high) = let more : compare (id (slice_index_or xs n x)) i ≡ Greater = (is up).1 n x high lt in let apart : Greater ≡ Equal = sym more ∙ tied in cc
