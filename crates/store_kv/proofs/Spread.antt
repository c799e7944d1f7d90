-- What entries laid over the rows of an interval list.
use Rattle.std.proofs.Common.{◌≡◌, ℕ, List, [], ◌∷◌, Bool, true, false, cond, map, Option, Some, None, Ordering, Less, is_eq, is_lt, T, IsTrue, refl, sym, ap, subst, ◌∙◌, true≢false}
use Rattle.std.proofs.lemmas.Bool.{and_parts, and_from}
use Rattle.std.proofs.lemmas.Map.Keys.{sorted_head, sorted_tail}
use Rattle.std.specs.Cmp.{Equal-is, unsigned_Decides}
use Rattle.std.specs.List.{AllByRecursion}
use Rattle.std.specs.List.Sorted.{IsStrictlySortedBy}
use Rattle.std.specs.Map.{lookup, keys_of}
use Rattle.std.specs.BTreeMap.{is_at}
use Rattle.std.specs.FinMap.Entries.{is_sorted, below_all}
use Rattle.base_lemmas.proofs.Bools.{T-and_from as join_and, T-and_parts as split_and}
use Rattle.base_lemmas.proofs.Orders.{less_from_T as less_is}
use Rattle.store_kv.specs.declared.keeper.KeptRow.{KeptRow}
use Rattle.store_kv.specs.Tables.{Place, Tables, place_cmp, bytes_cmp, row_at, is_between, is_in, rows_between, entry_of, IsListing}
use Rattle.store_kv.specs.Laid.{Entry, laid}
use Rattle.store_kv.specs.inner.Merging.{merged, within}
use Rattle.store_kv.proofs.Places.{places_exact, bytes_exact}
use Rattle.store_kv.proofs.Listing.{listed}
use Rattle.store_kv.proofs.Walk.{is_listing, one_table}
use Rattle.store_kv.proofs.Laid.{over, get-laid}
use Rattle.store_kv.proofs.Merged.{AboveRows, RowsRise, AboveEntries, EntriesRise, find_row, find_entry, merged_rises, merged_found, found_has, has_found_row}

is_less : (o : Ordering) → o ≡ Less → T (is_lt o)
is_less o e = subst (λ r. T (is_lt r)) (sym e) tt

no_entry : (b : Bool) → ◌≡◌ {A = Option (Option (List ℕ))} None (cond b None None)
no_entry true = refl
no_entry false = refl

module _ (t : ℕ) where
  above_from : (q : List ℕ) (rs : List KeptRow) → T (below_all place_cmp (t, q) (map (entry_of t) rs)) → AboveRows q rs
  above_from q [] h = tt
  above_from q (r ∷ rs) h = let p = split_and _ _ h in (sym (one_table t q r.key) ∙ less_is _ p.0, above_from q rs p.1)

  pub rise_from : (rs : List KeptRow) → T (is_sorted place_cmp (map (entry_of t) rs)) → RowsRise rs
  rise_from [] h = tt
  rise_from (r ∷ rs) h = let p = split_and _ _ h in (above_from r.key rs p.0, rise_from rs p.1)

  above_to : (q : List ℕ) (rs : List KeptRow) → AboveRows q rs → T (below_all place_cmp (t, q) (map (entry_of t) rs))
  above_to q [] h = tt
  above_to q (r ∷ rs) h = join_and _ _ (is_less _ (one_table t q r.key ∙ h.0)) (above_to q rs h.1)

  pub rise_to : (rs : List KeptRow) → RowsRise rs → T (is_sorted place_cmp (map (entry_of t) rs))
  rise_to [] h = tt
  rise_to (r ∷ rs) h = join_and _ _ (above_to r.key rs h.0) (rise_to rs h.1)

  module _ (from below : List ℕ) where
    here : (p : Place) → is_in t from below p ≡ true → p.0 ≡ t
    here p is = (unsigned_Decides p.0 t).0 (and_parts _ _ is).0

    at_key : (q : List ℕ) (p : Place) → p.0 ≡ t → place_cmp (t, q) p ≡ bytes_cmp q p.1
    at_key q p e = ap (λ n. place_cmp (t, q) (n, p.1)) e ∙ one_table t q p.1

    -- the entries of an interval
    above_within : (q : List ℕ) (es : List Entry) → AllByRecursion (λ p. place_cmp (t, q) p ≡ Less) (keys_of es) → AboveEntries q (within t from below es)
    above_within q [] h = tt
    above_within q (e ∷ es) h = go (is_in t from below e.0) refl (above_within q es h.1)
      where
        go : (b : Bool) → is_in t from below e.0 ≡ b → AboveEntries q (within t from below es) → AboveEntries q (cond b (e ∷ within t from below es) (within t from below es))
        go true is later = (sym (at_key q e.0 (here e.0 is)) ∙ h.0, later)
        go false is later = later

    pub within_rises : (es : List Entry) → IsStrictlySortedBy place_cmp (keys_of es) → EntriesRise (within t from below es)
    within_rises [] h = tt
    within_rises (e ∷ es) h = go (is_in t from below e.0) refl (within_rises es (sorted_tail place_cmp e.0 (keys_of es) h))
      where
        go : (b : Bool) → is_in t from below e.0 ≡ b → EntriesRise (within t from below es) → EntriesRise (cond b (e ∷ within t from below es) (within t from below es))
        go true is later = (above_within e.0.1 es (subst (λ (p : Place). AllByRecursion (λ d. place_cmp p d ≡ Less) (keys_of es)) (λ i. (here e.0 is i, e.0.1)) (sorted_head place_cmp e.0 (keys_of es) h)), later)
        go false is later = later

    pub within_found : (q : List ℕ) (es : List Entry) → find_entry q (within t from below es) ≡ cond (is_between from below q) (lookup (is_at (place_cmp (t, q))) es) None
    within_found q [] = no_entry (is_between from below q)
    within_found q (e ∷ es) = go (is_in t from below e.0) refl (within_found q es)
      where
        go : (b : Bool) → is_in t from below e.0 ≡ b → find_entry q (within t from below es) ≡ cond (is_between from below q) (lookup (is_at (place_cmp (t, q))) es) None
            → find_entry q (cond b (e ∷ within t from below es) (within t from below es)) ≡ cond (is_between from below q) (cond (is_eq (place_cmp (t, q) e.0)) (Some e.1) (lookup (is_at (place_cmp (t, q))) es)) None
        go true is later =
            ap (cond (is_eq (bytes_cmp q e.0.1)) (Some e.1)) later ∙ at (is_eq (bytes_cmp q e.0.1)) refl
            ∙ ap (λ o. cond (is_between from below q) (cond (is_eq o) (Some e.1) (lookup (is_at (place_cmp (t, q))) es)) None) (sym (at_key q e.0 (here e.0 is)))
          where
            at : (b : Bool) → is_eq (bytes_cmp q e.0.1) ≡ b
                → cond b (Some e.1) (cond (is_between from below q) (lookup (is_at (place_cmp (t, q))) es) None) ≡ cond (is_between from below q) (cond b (Some e.1) (lookup (is_at (place_cmp (t, q))) es)) None
            at true same = ap (λ c. cond c (Some e.1) None) (sym (ap (is_between from below) (bytes_exact q e.0.1 ((Equal-is _).0 same)) ∙ (and_parts _ _ is).1))
            at false other = refl
        go false is later = later ∙ at (is_eq (place_cmp (t, q) e.0)) refl
          where
            at : (b : Bool) → is_eq (place_cmp (t, q) e.0) ≡ b
                → cond (is_between from below q) (lookup (is_at (place_cmp (t, q))) es) None ≡ cond (is_between from below q) (cond b (Some e.1) (lookup (is_at (place_cmp (t, q))) es)) None
            at true same = by (is_between from below q) refl
              where
                by : (c : Bool) → is_between from below q ≡ c → cond c (lookup (is_at (place_cmp (t, q))) es) None ≡ cond c (Some e.1) None
                by true inside = absurd (true≢false (sym (ap (is_in t from below) (sym (places_exact (t, q) e.0 ((Equal-is _).0 same))) ∙ and_from _ _ ((unsigned_Decides t t).1 refl) inside) ∙ is))
                by false outside = refl
            at false other = refl

    -- the rows of an interval
    pub row_between : (m : Tables) (q : List ℕ) → find_row q (rows_between m t from below) ≡ cond (is_between from below q) (row_at m t q) None
    row_between m q = go (is_between from below q) refl
      where
        all : IsListing m t from below (rows_between m t from below)
        all = is_listing m t from below

        rise : RowsRise (rows_between m t from below)
        rise = rise_from (rows_between m t from below) (is_listing m t from below).rises

        sound : (v : List ℕ) → find_row q (rows_between m t from below) ≡ Some v → IsTrue (is_between from below q) × (row_at m t q ≡ Some v)
        sound v is = (is_listing m t from below).sound (record { key = q; row = v }) (found_has q v (rows_between m t from below) is)

        go : (b : Bool) → is_between from below q ≡ b → find_row q (rows_between m t from below) ≡ cond b (row_at m t q) None
        go true inside = by (row_at m t q) refl
          where
            by : (o : Option (List ℕ)) → row_at m t q ≡ o → find_row q (rows_between m t from below) ≡ row_at m t q
            by (Some v) is = has_found_row (rows_between m t from below) (record { key = q; row = v }) (rise_from (rows_between m t from below) (is_listing m t from below).rises)
                ((is_listing m t from below).complete q v inside is) ∙ sym is
            by None is = or (find_row q (rows_between m t from below)) refl
              where
                or : (o : Option (List ℕ)) → find_row q (rows_between m t from below) ≡ o → find_row q (rows_between m t from below) ≡ row_at m t q
                or None found = found ∙ sym is
                or (Some v) found = let s = sound v found in absurd cc
        go false outside = or (find_row q (rows_between m t from below)) refl
          where
            or : (o : Option (List ℕ)) → find_row q (rows_between m t from below) ≡ o → find_row q (rows_between m t from below) ≡ None
            or None found = found
            or (Some v) found = let s = sound v found in absurd (true≢false (sym s.0 ∙ outside))

    merged_between : (m : Tables) (es : List Entry) → IsStrictlySortedBy place_cmp (keys_of es) → (q : List ℕ)
        → find_row q (merged (rows_between m t from below) (within t from below es)) ≡ cond (is_between from below q) (row_at (laid es m) t q) None
    merged_between m es ordered q =
        merged_found q (rows_between m t from below) (rise_from (rows_between m t from below) (is_listing m t from below).rises) (within t from below es) (within_rises es ordered)
        ∙ ap (λ o. over o (find_row q (rows_between m t from below))) (within_found q es) ∙ ap (over (cond (is_between from below q) (lookup (is_at (place_cmp (t, q))) es) None)) (row_between m q)
        ∙ both (is_between from below q) ∙ ap (λ o. cond (is_between from below q) o None) (sym (get-laid es m (t, q)))
      where
        both : (b : Bool) → over (cond b (lookup (is_at (place_cmp (t, q))) es) None) (cond b (row_at m t q) None) ≡ cond b (over (lookup (is_at (place_cmp (t, q))) es) (row_at m t q)) None
        both true = refl
        both false = refl

    pub merged_listing : (m : Tables) (es : List Entry) → IsStrictlySortedBy place_cmp (keys_of es) → IsListing (laid es m) t from below (merged (rows_between m t from below) (within t from below es))
    merged_listing m es ordered = record {
      rises = rise_to (merged (rows_between m t from below) (within t from below es)) rise;
      sound = λ r h. at r (is_between from below r.key) refl (sym (has_found_row (merged (rows_between m t from below) (within t from below es)) r rise h) ∙ merged_between m es ordered r.key);
      complete = λ key row inside is. found_has key row (merged (rows_between m t from below) (within t from below es)) (merged_between m es ordered key ∙ ap (λ b. cond b (row_at (laid es m) t key) None) inside ∙ is);
    }
      where
        rise : RowsRise (merged (rows_between m t from below) (within t from below es))
        rise = merged_rises (rows_between m t from below) (rise_from (rows_between m t from below) (is_listing m t from below).rises) (within t from below es) (within_rises es ordered)

        at : (r : KeptRow) (b : Bool) → is_between from below r.key ≡ b → Some r.row ≡ cond (is_between from below r.key) (row_at (laid es m) t r.key) None → IsTrue (is_between from below r.key) × (row_at (laid es m) t r.key ≡ Some r.row)
        at r true inside is = (inside, sym (is ∙ ap (λ b. cond b (row_at (laid es m) t r.key) None) inside))
        at r false outside is = let none : Some r.row ≡ None = is ∙ ap (λ b. cond b (row_at (laid es m) t r.key) None) outside in absurd cc

    -- a draft's rows are the keeper's with its entries laid over them
    pub merged_is : (m : Tables) (es : List Entry) → IsStrictlySortedBy place_cmp (keys_of es) → merged (rows_between m t from below) (within t from below es) ≡ rows_between (laid es m) t from below
    merged_is m es ordered = listed (laid es m) t from below (merged (rows_between m t from below) (within t from below es)) (merged_listing m es ordered)
