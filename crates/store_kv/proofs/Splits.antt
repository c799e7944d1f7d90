-- The rows of an interval, by two parts of it.
use Rattle.std.proofs.Common.{◌≡◌, inl, inr, ℕ, List, [], ◌∷◌, ◌++◌, Bool, true, false, map, Some, Ordering, Less, Equal, Greater, is_lt, T, IsTrue, refl, sym, ap, subst, ◌∙◌, true≢false}
use Rattle.std.proofs.lemmas.Bool.{and_parts, and_from}
use Rattle.std.proofs.lemmas.Cmp.{nat_list_cmp_total}
use Rattle.std.specs.Ordering.{is_ge, is_le}
use Rattle.std.specs.FinMap.Entries.{is_sorted, below_all}
use Rattle.base_lemmas.proofs.Bools.{T-and_from as join_and, T-and_parts as split_and}
use Rattle.base_lemmas.proofs.Orders.{is_ge-reverse as ge_turned, less_from_is_lt as less_or_not}
use Rattle.store_kv.specs.declared.keeper.KeptRow.{KeptRow}
use Rattle.store_kv.specs.Tables.{Tables, place_cmp, bytes_cmp, row_at, rows_between, Has, entry_of, IsListing}
use Rattle.store_kv.proofs.Places.{bytes_exact}
use Rattle.store_kv.proofs.Listing.{listed}
use Rattle.store_kv.proofs.Walk.{is_listing, has_right, has_left, has_either, one_table}

-- ---- the order of keys

lower : (a b c : List ℕ) → bytes_cmp a b ≡ Less → is_le (bytes_cmp b c) ≡ true → bytes_cmp a c ≡ Less
lower a b c less h = go (bytes_cmp b c) refl h
  where
    go : (o : Ordering) → bytes_cmp b c ≡ o → is_le o ≡ true → bytes_cmp a c ≡ Less
    go Less e h = nat_list_cmp_total.trans a b c less e
    go Equal e h = ap (bytes_cmp a) (sym (bytes_exact b c e)) ∙ less
    go Greater e h = absurd (true≢false (sym h))

no_higher : (a b c : List ℕ) → is_le (bytes_cmp a b) ≡ true → is_le (bytes_cmp b c) ≡ true → is_le (bytes_cmp a c) ≡ true
no_higher a b c h k = go (bytes_cmp a b) refl h
  where
    go : (o : Ordering) → bytes_cmp a b ≡ o → is_le o ≡ true → is_le (bytes_cmp a c) ≡ true
    go Less e h = ap is_le (lower a b c e k)
    go Equal e h = ap (λ z. is_le (bytes_cmp z c)) (bytes_exact a b e) ∙ k
    go Greater e h = absurd (true≢false (sym h))

-- not below is above or at
from_up : (a b : List ℕ) → is_ge (bytes_cmp a b) ≡ is_le (bytes_cmp b a)
from_up a b = ap is_ge (nat_list_cmp_total.antisymm a b) ∙ ge_turned (bytes_cmp b a)

not_lower : (o : Ordering) → is_lt o ≡ false → is_ge o ≡ true
not_lower Less h = absurd (true≢false h)
not_lower Equal h = refl
not_lower Greater h = refl

-- ---- two lists in order

below_both : (t : ℕ) (key : List ℕ) (xs ys : List KeptRow) → T (below_all place_cmp (t, key) (map (entry_of t) xs)) → ((y : KeptRow) → Has ys y → bytes_cmp key y.key ≡ Less) → T (below_all place_cmp (t, key) (map (entry_of t) (xs ++ ys)))
below_both t key [] [] h less = tt
below_both t key [] (y ∷ ys) h less = join_and _ _ (subst (λ o. T (is_lt o)) (sym (one_table t key y.key ∙ less y (inl refl))) tt) (below_both t key [] ys tt (λ z i. less z (inr i)))
below_both t key (x ∷ xs) ys h less = join_and _ _ (split_and _ _ h).0 (below_both t key xs ys (split_and _ _ h).1 less)

both_rise : (t : ℕ) (xs ys : List KeptRow) → T (is_sorted place_cmp (map (entry_of t) xs)) → T (is_sorted place_cmp (map (entry_of t) ys)) → ((x y : KeptRow) → Has xs x → Has ys y → bytes_cmp x.key y.key ≡ Less) → T (is_sorted place_cmp (map (entry_of t) (xs ++ ys)))
both_rise t [] ys h k less = k
both_rise t (x ∷ xs) ys h k less = join_and _ _ (below_both t x.key xs ys (split_and _ _ h).0 (λ y i. less x y (inl refl) i)) (both_rise t xs ys (split_and _ _ h).1 k (λ a b i j. less a b (inr i) j))

-- ---- an interval

pub split : (m : Tables) (t : ℕ) (from mid below : List ℕ) → IsTrue (is_le (bytes_cmp from mid)) → IsTrue (is_le (bytes_cmp mid below)) → rows_between m t from below ≡ rows_between m t from mid ++ rows_between m t mid below
split m t from mid below low high = sym (listed m t from below (xs ++ ys) (record {
  rises = both_rise t xs ys first.rises second.rises (λ x y i j.
      let p = and_parts _ _ (first.sound x i).0 in
      let q = and_parts _ _ (second.sound y j).0 in
      lower x.key mid y.key (less_or_not _ p.1) (sym (from_up y.key mid) ∙ q.0));
  sound = λ r h. elim (has_either xs ys r h) [
    | inl i ↦ let s = first.sound r i in let p = and_parts _ _ s.0 in (and_from _ _ p.0 (ap is_lt (lower r.key mid below (less_or_not _ p.1) high)), s.1)
    | inr j ↦ let s = second.sound r j in let q = and_parts _ _ s.0 in (and_from _ _ (from_up r.key from ∙ no_higher from mid r.key low (sym (from_up r.key mid) ∙ q.0)) q.1, s.1)
  ];
  complete = λ key row inside at. by key row (and_parts _ _ inside).0 (and_parts _ _ inside).1 at (is_lt (bytes_cmp key mid)) refl;
}))
  where
    xs : List KeptRow
    xs = rows_between m t from mid

    ys : List KeptRow
    ys = rows_between m t mid below

    first : IsListing m t from mid xs
    first = is_listing m t from mid

    second : IsListing m t mid below ys
    second = is_listing m t mid below

    by : (key row : List ℕ) → IsTrue (is_ge (bytes_cmp key from)) → IsTrue (is_lt (bytes_cmp key below)) → row_at m t key ≡ Some row → (b : Bool) → is_lt (bytes_cmp key mid) ≡ b → Has (xs ++ ys) (record { key = key; row = row })
    by key row low high at true is = has_left xs ys _ (first.complete key row (and_from _ _ low is) at)
    by key row low high at false is = has_right xs ys _ (second.complete key row (and_from _ _ (not_lower _ is) high) at)
