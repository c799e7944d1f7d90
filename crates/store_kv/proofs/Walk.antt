-- A walk in pages: where the next page begins.
use Rattle.std.proofs.Common.{◌≡◌, ◌⊎◌, inl, inr, ℕ, zero, suc, List, [], ◌∷◌, ◌++◌, Bool, true, false, cond, map, filter, Some, Ordering, Less, Equal, Greater, nat_cmp, is_eq, is_lt, T, IsTrue, refl, sym, ap, subst, ◌∙◌, true≢false, arith}
use Rattle.std.proofs.lemmas.Bool.{and_parts, and_from}
use Rattle.std.proofs.lemmas.Cmp.{tied_itself, nat_list_cmp_total}
use Rattle.std.specs.Ordering.{eq_by_cmp, is_ge, ordering_then, ordering_reverse}
use Rattle.std.specs.Cmp.{Equal-is, unsigned_Decides, nat_cmp_total}
use Rattle.std.specs.FinMap.{find, entries, entries_sorted, get-entries}
use Rattle.std.specs.FinMap.Entries.{is_sorted, below_all, is_sorted-where_key}
use Rattle.base_lemmas.proofs.Orders.{less_from_T as less_is, less_from_is_lt as less_or_not}
use Rattle.base_lemmas.proofs.Bools.{T-and_parts as split_and}
use Rattle.store_kv.specs.declared.keeper.KeptRow.{KeptRow}
use Rattle.store_kv.specs.Tables.{Place, Tables, place_cmp, bytes_cmp, is_between, is_in, shown_row, rows_among, rows_between, Has, entry_of, IsListing}
use Rattle.store_kv.specs.Order.{places_total}
use Rattle.store_kv.proofs.Places.{places_exact, bytes_exact}
use Rattle.store_kv.proofs.Listing.{listed, entry_has}

turned : (y a : ℕ) (o p : Ordering) → is_ge o ≡ is_lt p → is_ge (ordering_then (nat_cmp y a) o) ≡ is_lt (ordering_then (nat_cmp a y) p)
turned y a o p h = go (nat_cmp y a) (nat_cmp a y) (nat_cmp_total.antisymm a y)
  where
    go : (r s : Ordering) → s ≡ ordering_reverse r → is_ge (ordering_then r o) ≡ is_lt (ordering_then s p)
    go Less s e = rw e refl
    go Equal s e = rw e h
    go Greater s e = rw e refl

-- The least key above k is k and a byte 00.
pub after_zero : (k x : List ℕ) → is_ge (bytes_cmp x (k ++ 0 ∷ [])) ≡ is_lt (bytes_cmp k x)
after_zero [] [] = refl
after_zero [] (zero ∷ []) = refl
after_zero [] (zero ∷ y ∷ ys) = refl
after_zero [] (suc n ∷ ys) = grind arith
after_zero (a ∷ k) [] = refl
after_zero (a ∷ k) (y ∷ ys) = turned y a _ _ (after_zero k ys)

below_has : (q : Place) (es : List (Place × List ℕ)) (e : Place × List ℕ) → T (below_all place_cmp q es) → Has es e → place_cmp q e.0 ≡ Less
below_has q [] e h i = absurd i
below_has q (d ∷ es) e h (inl same) = ap (λ (x : Place × List ℕ). place_cmp q x.0) same ∙ less_is _ (split_and _ _ h).0
below_has q (d ∷ es) e h (inr later) = below_has q es e (split_and _ _ h).1 later

-- a list in order finds each of its entries, and has each that it finds
pub find_has : (es : List (Place × List ℕ)) (e : Place × List ℕ) → T (is_sorted place_cmp es) → Has es e → find place_cmp e.0 es ≡ Some e.1
find_has [] e h i = absurd i
find_has (d ∷ es) e h (inl same) = subst (λ (x : Place × List ℕ). find place_cmp x.0 (d ∷ es) ≡ Some x.1) (sym same) (ap (λ r. cond (is_eq r) (Some d.1) (find place_cmp d.0 es)) (tied_itself places_total d.0))
find_has (d ∷ es) e h (inr later) =
    let lower = below_has d.0 es e (split_and _ _ h).0 later in
    let other : place_cmp e.0 d.0 ≡ Greater = places_total.antisymm e.0 d.0 ∙ ap ordering_reverse lower in
    ap (λ r. cond (is_eq r) (Some d.1) (find place_cmp e.0 es)) other ∙ find_has es e (split_and _ _ h).1 later

pub has_found : (es : List (Place × List ℕ)) (q : Place) (v : List ℕ) → find place_cmp q es ≡ Some v → Has es (q, v)
has_found [] q v h = absurd cc
has_found (d ∷ es) q v h = go (eq_by_cmp place_cmp q d.0) refl h (has_found es q v)
  where
    go : (b : Bool) → eq_by_cmp place_cmp q d.0 ≡ b → cond b (Some d.1) (find place_cmp q es) ≡ Some v → (find place_cmp q es ≡ Some v → Has es (q, v)) → Has (d ∷ es) (q, v)
    go true is found later = let first = places_exact q d.0 ((Equal-is _).0 is) in let second : d.1 ≡ v = cc in inl (λ i. (first i, sym second i))
    go false is found later = inr (later found)

module _ (t : ℕ) (from below : List ℕ) where
  forth : (es : List (Place × List ℕ)) → map (entry_of t) (rows_among t from below es) ≡ filter (λ e. is_in t from below e.0) es
  forth [] = refl
  forth (e ∷ es) = go (is_in t from below e.0) refl
      (forth es)
    where
      go : (b : Bool) → is_in t from below e.0 ≡ b → map (entry_of t) (rows_among t from below es) ≡ filter (λ d. is_in t from below d.0) es
          → map (entry_of t) (cond b (shown_row e ∷ rows_among t from below es) (rows_among t from below es)) ≡ cond b (e ∷ filter (λ d. is_in t from below d.0) es) (filter (λ d. is_in t from below d.0) es)
      go true is more = let here = (unsigned_Decides e.0.0 t).0 (and_parts _ _ is).0 in λ i. ((sym here i, e.0.1), e.1) ∷ more i
      go false is more = more

  among_has : (es : List (Place × List ℕ)) (r : KeptRow) → Has (rows_among t from below es) r → Has es (entry_of t r) × IsTrue (is_between from below r.key)
  among_has [] r h = absurd h
  among_has (e ∷ es) r h = go (is_in t from below e.0) refl h (among_has es r)
    where
      go : (b : Bool) → is_in t from below e.0 ≡ b → Has (cond b (shown_row e ∷ rows_among t from below es) (rows_among t from below es)) r
          → (Has (rows_among t from below es) r → Has es (entry_of t r) × IsTrue (is_between from below r.key)) → Has (e ∷ es) (entry_of t r) × IsTrue (is_between from below r.key)
      go true is (inl same) later = let p = and_parts _ _ is in let here = (unsigned_Decides e.0.0 t).0 p.0 in
          (inl (ap (entry_of t) same ∙ (λ i. ((sym here i, e.0.1), e.1))), ap (λ (x : KeptRow). is_between from below x.key) same ∙ p.1)
      go true is (inr i) later = (inr (later i).0, (later i).1)
      go false is i later = (inr (later i).0, (later i).1)

  has_among : (es : List (Place × List ℕ)) (r : KeptRow) → Has es (entry_of t r) → IsTrue (is_between from below r.key) → Has (rows_among t from below es) r
  has_among [] r h inside = absurd h
  has_among (e ∷ es) r (inl same) inside =
      let here : is_in t from below e.0 ≡ true = ap (λ (x : Place × List ℕ). is_in t from below x.0) (sym same) ∙ and_from _ _ ((unsigned_Decides t t).1 refl) inside in
      rw here (inl (ap shown_row same))
  has_among (e ∷ es) r (inr later) inside =
      elim (is_in t from below e.0) as (λ b. Has (cond b (shown_row e ∷ rows_among t from below es) (rows_among t from below es)) r) [ true ↦ inr (has_among es r later inside) | false ↦ has_among es r later inside ]

-- what a scan answers is a listing
pub is_listing : (m : Tables) (t : ℕ) (from below : List ℕ) → IsListing m t from below (rows_between m t from below)
unfolding rows_between
is_listing m t from below = record {
  rises = subst (λ l. T (is_sorted place_cmp l)) (sym (forth t from below (entries m))) (is_sorted-where_key place_cmp (is_in t from below) (entries m) (entries_sorted m));
  sound = λ r h. let p = among_has t from below (entries m) r h in (p.1, get-entries m (t, r.key) ∙ find_has (entries m) (entry_of t r) (entries_sorted m) p.0);
  complete = λ key row inside is. has_among t from below (entries m) (record { key = key; row = row }) (has_found (entries m) (t, key) row (sym (get-entries m (t, key)) ∙ is)) inside;
}

pub has_left : {X : Type 0} (xs ys : List X) (x : X) → Has xs x → Has (xs ++ ys) x
has_left [] ys x h = absurd h
has_left (y ∷ xs) ys x (inl same) = inl same
has_left (y ∷ xs) ys x (inr later) = inr (has_left xs ys x later)

pub has_right : {X : Type 0} (xs ys : List X) (x : X) → Has ys x → Has (xs ++ ys) x
has_right [] ys x h = h
has_right (y ∷ xs) ys x h = inr (has_right xs ys x h)

pub has_either : {X : Type 0} (xs ys : List X) (x : X) → Has (xs ++ ys) x → Has xs x ⊎ Has ys x
has_either [] ys x h = inr h
has_either (y ∷ xs) ys x (inl same) = inl (inl same)
has_either (y ∷ xs) ys x (inr later) = elim (has_either xs ys x later) [ inl left ↦ inl (inr left) | inr right ↦ inr right ]

-- of rows in order, those behind one are in order and above it, and those before it are below it
behind : (t : ℕ) (front : List KeptRow) (r : KeptRow) (back : List KeptRow) → T (is_sorted place_cmp (map (entry_of t) (front ++ r ∷ back)))
    → T (below_all place_cmp (t, r.key) (map (entry_of t) back)) × T (is_sorted place_cmp (map (entry_of t) back))
behind t [] r back h = split_and _ _ h
behind t (x ∷ front) r back h = behind t front r back (split_and _ _ h).1

before : (t : ℕ) (front : List KeptRow) (r : KeptRow) (back : List KeptRow) → T (is_sorted place_cmp (map (entry_of t) (front ++ r ∷ back))) → (x : KeptRow) → Has front x → place_cmp (t, x.key) (t, r.key) ≡ Less
before t [] r back h x i = absurd i
before t (y ∷ front) r back h x (inl same) =
    let lower = below_has (t, y.key) (map (entry_of t) (front ++ r ∷ back)) (entry_of t r) (split_and _ _ h).0 (entry_has t (front ++ r ∷ back) r (has_right front (r ∷ back) r (inl refl))) in
    ap (λ (z : KeptRow). place_cmp (t, z.key) (t, r.key)) same ∙ lower
before t (y ∷ front) r back h x (inr later) = before t front r back (split_and _ _ h).1 x later

pub one_table : (t : ℕ) (a b : List ℕ) → place_cmp (t, a) (t, b) ≡ bytes_cmp a b
one_table t a b = ap (λ o. ordering_then o (bytes_cmp a b)) (tied_itself nat_cmp_total t)

at_least : (o : Ordering) → is_ge o ≡ true → (o ≡ Equal) ⊎ (o ≡ Greater)
at_least Less h = absurd (true≢false (sym h))
at_least Equal h = inl refl
at_least Greater h = inr refl

-- a key above one that is not below `from` is not below it either
above_from : (from k x : List ℕ) → is_ge (bytes_cmp k from) ≡ true → bytes_cmp k x ≡ Less → is_ge (bytes_cmp x from) ≡ true
above_from from k x low up = elim (at_least _ low) [
  | inl same ↦ let e = bytes_exact k from same in ap is_ge (nat_list_cmp_total.antisymm x from ∙ ap (λ z. ordering_reverse (bytes_cmp z x)) (sym e) ∙ ap ordering_reverse up)
  | inr more ↦ ap is_ge (nat_list_cmp_total.antisymm x from ∙ ap ordering_reverse (nat_list_cmp_total.trans from k x (nat_list_cmp_total.antisymm from k ∙ ap ordering_reverse more) up))
]

-- Behind a row of a page, the rest begins at its key with a byte 00.
pub page_rest : (m : Tables) (t : ℕ) (from below : List ℕ) (front : List KeptRow) (r : KeptRow) (back : List KeptRow) → rows_between m t from below ≡ front ++ r ∷ back
    → rows_between m t (r.key ++ 0 ∷ []) below ≡ back
page_rest m t from below front r back is = sym (listed m t (r.key ++ 0 ∷ []) below back (record {
  rises = (behind t front r back all.rises).1;
  sound = λ x h.
      let p = all.sound x (has_right front (r ∷ back) x (inr h)) in
      let up = below_has (t, r.key) (map (entry_of t) back) (entry_of t x) (behind t front r back all.rises).0 (entry_has t back x h) in
      (and_from _ _ (after_zero r.key x.key ∙ ap is_lt (sym (one_table t r.key x.key) ∙ up)) (and_parts _ _ p.0).1, p.1);
  complete = λ key row inside at.
      let p = and_parts _ _ inside in
      let up : bytes_cmp r.key key ≡ Less = less_or_not _ (sym (after_zero r.key key) ∙ p.0) in
      let here = all.sound r (has_right front (r ∷ back) r (inl refl)) in
      let h = all.complete key row (and_from _ _ (above_from from r.key key (and_parts _ _ here.0).0 up) p.1) at in
      elim (has_either front (r ∷ back) _ h) [
        | inl early ↦ absurd (never r.key key up (sym (one_table t key r.key) ∙ before t front r back all.rises _ early))
        | inr late ↦ elim late [ inl same ↦ absurd (self r.key (ap (bytes_cmp r.key) (sym (ap (λ (x : KeptRow). x.key) same)) ∙ up)) | inr found ↦ found ]
      ];
}))
  where
    all : IsListing m t from below (front ++ r ∷ back)
    all = subst (IsListing m t from below) is (is_listing m t from below)

    self : (a : List ℕ) → bytes_cmp a a ≡ Less → ⊥
    self a e = let f = sym (tied_itself nat_list_cmp_total a) ∙ e in true≢false (ap is_eq f)

    never : (a b : List ℕ) → bytes_cmp a b ≡ Less → bytes_cmp b a ≡ Less → ⊥
    never a b e f = let g = sym e ∙ nat_list_cmp_total.antisymm a b ∙ ap ordering_reverse f in true≢false (ap is_lt g)
