-- What a scan answers, in memory and through a draft.
use Rattle.std.proofs.Common.{◌≡◌, ◌⊎◌, inl, inr, ℕ, zero, suc, ◌+◌, ◌-◌, ◌^◌, ◌<◌, ◌≤◌, min, List, [], ◌∷◌, length, take, map, Bool, true, false, cond, Option, Some, None, Less, is_eq, refl, sym, ap, subst, ◌∙◌, arith}
use Rattle.std.specs.FinMap.{get, get-empty, same_map}
use Rattle.std.specs.List.{AllByRecursion}
use Rattle.std.specs.List.Sorted.{IsStrictlySortedBy}
use Rattle.std.specs.Map.{lookup, keys_of}
use Rattle.std.specs.BTreeMap.{is_at}
use Rattle.std.specs.Ordering.{eq_by_cmp}
use Rattle.std.specs.Cmp.{Equal-is}
use Rattle.std.proofs.lemmas.Bool.{cases_lt}
use Rattle.std.proofs.lemmas.Map.Keys.{sorted_head, sorted_tail}
use Rattle.store_kv.specs.declared.keeper.KeptRow.{KeptRow}
use Rattle.store_kv.specs.Tables.{Place, Tables, place_cmp, no_rows, rows_between, after, after_change}
use Rattle.store_kv.specs.Order.{places_total}
use Rattle.store_kv.specs.Laid.{Entry, laid, row_laid, removals}
use Rattle.store_kv.specs.inner.Merging.{merged, within, front, gaps, left}
use Rattle.store_kv.specs.inner.Changes.{change_of, change_at}
use Rattle.store_kv.specs.Memory.{tables_in}
use Rattle.store_kv.proofs.Places.{places_exact}
use Rattle.store_kv.proofs.Listing.{listed}
use Rattle.store_kv.proofs.Laid.{over, get-row_laid, get-laid}
use Rattle.store_kv.proofs.Spread.{merged_is}
use Rattle.store_kv.proofs.Pages.{merged_cut, merged_front, merged_length}
use Rattle.store_kv.proofs.Counted.{gaps_within}
use Rattle.std.proofs.lemmas.List.{length-take}

no_rows_between : (t : ℕ) (from below : List ℕ) → [] ≡ rows_between no_rows t from below
no_rows_between t from below = listed no_rows t from below [] (record {
  rises = tt;
  sound = λ r h. absurd h;
  complete = λ key row inside is. let none : None ≡ Some row = sym (get-empty place_cmp (t, key)) ∙ is in absurd cc;
})

pub memory_rows : (es : List Entry) (t : ℕ) (from below : List ℕ) (n : ℕ) → IsStrictlySortedBy place_cmp (keys_of es) → take n (merged [] (front n (within t from below es))) ≡ take n (rows_between (tables_in es) t from below)
unfolding tables_in
memory_rows es t from below n ordered =
    merged_front [] n n (within t from below es) (omega arith) ∙ ap (λ ks. take n (merged ks (within t from below es))) (no_rows_between t from below) ∙ ap (take n) (merged_is t from below no_rows es ordered)

whole : (m : ℕ) (ks : List KeptRow) → length (take m ks) < m → take m ks ≡ ks
whole zero ks h = absurd (omega (arith, h))
whole (suc m) [] h = refl
whole (suc m) (k ∷ ks) h = ap (λ l. k ∷ l) (whole m ks (omega (arith, h)))

pub draft_rows : (es : List Entry) (m : Tables) (t : ℕ) (from below : List ℕ) (n most : ℕ) (kept : List KeptRow) (held : List Entry) → IsStrictlySortedBy place_cmp (keys_of es) → held ≡ front n (within t from below es)
    → kept ≡ take most (rows_between m t from below) → (n + gaps held ≤ most) ⊎ (length kept < most) → take n (merged kept held) ≡ take n (rows_between (laid es m) t from below)
draft_rows es m t from below n most kept held ordered is rows enough =
    ap (λ ks. take n (merged ks held)) rows ∙ cut enough ∙ ap (λ l. take n (merged (rows_between m t from below) l)) is ∙ merged_front (rows_between m t from below) n n (within t from below es) (omega arith)
    ∙ ap (take n) (merged_is t from below m es ordered)
  where
    cut : (n + gaps held ≤ most) ⊎ (length kept < most) → take n (merged (take most (rows_between m t from below)) held) ≡ take n (merged (rows_between m t from below) held)
    cut (inl fits) = merged_cut (rows_between m t from below) most n held fits
    cut (inr short) = ap (λ ks. take n (merged ks held)) (whole most (rows_between m t from below) (subst (λ l. length l < most) rows short))

-- the entries in order, as a batch
missing : (q : Place) (es : List Entry) → AllByRecursion (λ p. place_cmp q p ≡ Less) (keys_of es) → lookup (is_at (place_cmp q)) es ≡ None
missing q [] h = refl
missing q (e ∷ es) h = ap (λ o. cond (is_eq o) (Some e.1) (lookup (is_at (place_cmp q)) es)) h.0 ∙ missing q es h.1

made : (e : Entry) (m : Tables) → after_change (change_of e) m ≡ row_laid e.0 e.1 m
made e m = by e.1
  where
    by : (r : Option (List ℕ)) → after_change (change_at e.0 r) m ≡ row_laid e.0 r m
    by (Some r) = refl
    by None = refl

-- a change before others that leave its place alone is one after them
moved_back : (e : Entry) (es : List Entry) (m : Tables) → AllByRecursion (λ p. place_cmp e.0 p ≡ Less) (keys_of es) → laid es (row_laid e.0 e.1 m) ≡ row_laid e.0 e.1 (laid es m)
moved_back e es m above = same_map places_total places_exact _ _ (λ q.
    get-laid es (row_laid e.0 e.1 m) q ∙ ap (over (lookup (is_at (place_cmp q)) es)) (get-row_laid e.0 e.1 m q) ∙ by q (eq_by_cmp place_cmp q e.0) refl
    ∙ sym (get-row_laid e.0 e.1 (laid es m) q ∙ ap (cond (eq_by_cmp place_cmp q e.0) e.1) (get-laid es m q)))
  where
    by : (q : Place) (b : Bool) → eq_by_cmp place_cmp q e.0 ≡ b → over (lookup (is_at (place_cmp q)) es) (cond b e.1 (get m q)) ≡ cond b e.1 (over (lookup (is_at (place_cmp q)) es) (get m q))
    by q true is = ap (λ o. over o e.1) (ap (λ (p : Place). lookup (is_at (place_cmp p)) es) (places_exact q e.0 ((Equal-is _).0 is)) ∙ missing e.0 es above)
    by q false is = refl

pub batch_laid : (es : List Entry) → IsStrictlySortedBy place_cmp (keys_of es) → (m : Tables) → after (map change_of es) m ≡ laid es m
batch_laid [] h m = refl
batch_laid (e ∷ es) h m =
    batch_laid es (sorted_tail place_cmp e.0 (keys_of es) h) (after_change (change_of e) m) ∙ ap (laid es) (made e m) ∙ moved_back e es m (sorted_head place_cmp e.0 (keys_of es) h)

pub enough : (n k most s : ℕ) → most ≡ min (n + k) (2 ^ 64 - 1) → s < 2 ^ 63 → (n + k ≤ most) ⊎ (s < most)
enough n k most s is small = elim (cases_lt (n + k) (2 ^ 64 - 1)) [ inl fits ↦ inl (omega (arith, is, fits)) | inr over ↦ inr (omega (arith, is, small, over)) ]

gaps_front : (n : ℕ) (es : List Entry) → gaps (front n es) ≤ gaps es
gaps_front n [] = omega arith
gaps_front zero (e ∷ es) = omega arith
gaps_front (suc n) (e ∷ es) = let later = gaps_front (left e.1 n) es in omega (arith, later)

shown_most : (n : ℕ) (kept : List KeptRow) (held es : List Entry) (most : ℕ) (rows : List KeptRow) → held ≡ front n es → most ≤ n + gaps held → length kept ≤ most → rows ≡ take n (merged kept held) → length kept ≤ length rows + gaps es
shown_most n kept held es most rows is low short made =
    let fronts = gaps_front n es in
    let same = ap gaps is in
    let len = ap length made ∙ length-take n (merged kept held) in
    let lost = merged_length kept held in
    omega (arith, fronts, same, len, short, lost, low)

front_most : (n : ℕ) (held es : List Entry) → held ≡ front n es → gaps held ≤ gaps es
front_most n held es is = let fronts = gaps_front n es in let same = ap gaps is in omega (arith, fronts, same)

-- what the keeper showed for a scan that answers rows
pub shown_for_rows : (t n most : ℕ) (from below : List ℕ) (es held : List Entry) (kept rows : List KeptRow) → held ≡ front n (within t from below es) → most ≤ n + gaps held → length kept ≤ most → rows ≡ take n (merged kept held)
    → length kept ≤ length rows + removals t es
shown_for_rows t n most from below es held kept rows is low short made =
    let few = shown_most n kept held (within t from below es) most rows is low short made in
    let gone = gaps_within t from below es in
    omega (arith, few, gone)

-- and for one that fails
pub shown_for_none : (t n most : ℕ) (from below : List ℕ) (es held : List Entry) (kept : List KeptRow) → held ≡ front n (within t from below es) → most ≤ n + gaps held → length kept ≤ most → length kept ≤ n + removals t es
shown_for_none t n most from below es held kept is low short =
    let fronts = front_most n held (within t from below es) is in
    let gone = gaps_within t from below es in
    omega (arith, fronts, gone, low, short)
