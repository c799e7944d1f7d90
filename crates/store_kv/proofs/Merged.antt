-- Entries laid over rows, as one listing.
use Rattle.std.proofs.Common.{◌≡◌, inl, inr, ℕ, List, [], ◌∷◌, Bool, true, false, cond, Option, Some, None, Ordering, Less, Equal, Greater, is_eq, refl, sym, ap, subst, ◌∙◌}
use Rattle.std.proofs.lemmas.Cmp.{tied_itself}
use Rattle.std.specs.Cmp.{Equal-is}
use Rattle.std.specs.Cmp.Lexicographic.{nat_list_cmp_total}
use Rattle.std.specs.Ordering.{ordering_reverse, match_ordering}
use Rattle.store_kv.specs.declared.keeper.KeptRow.{KeptRow}
use Rattle.store_kv.specs.Tables.{bytes_cmp, Has}
use Rattle.store_kv.specs.Laid.{Entry}
use Rattle.store_kv.specs.inner.Merging.{shown_at, shown_first, shown_rows, beside, merged}
use Rattle.store_kv.proofs.Places.{bytes_exact}
use Rattle.store_kv.proofs.Laid.{over, over_cond}

abbrev pub AboveRows : List ℕ → List KeptRow → Type 0
AboveRows q [] = Unit {0}
AboveRows q (r ∷ rs) = (bytes_cmp q r.key ≡ Less) × AboveRows q rs

abbrev pub RowsRise : List KeptRow → Type 0
RowsRise [] = Unit {0}
RowsRise (r ∷ rs) = AboveRows r.key rs × RowsRise rs

abbrev pub AboveEntries : List ℕ → List Entry → Type 0
AboveEntries q [] = Unit {0}
AboveEntries q (e ∷ es) = (bytes_cmp q e.0.1 ≡ Less) × AboveEntries q es

abbrev pub EntriesRise : List Entry → Type 0
EntriesRise [] = Unit {0}
EntriesRise (e ∷ es) = AboveEntries e.0.1 es × EntriesRise es

abbrev pub find_row : List ℕ → List KeptRow → Option (List ℕ)
find_row q [] = None
find_row q (r ∷ rs) = cond (is_eq (bytes_cmp q r.key)) (Some r.row) (find_row q rs)

abbrev pub find_entry : List ℕ → List Entry → Option (Option (List ℕ))
find_entry q [] = None
find_entry q (e ∷ es) = cond (is_eq (bytes_cmp q e.0.1)) (Some e.1) (find_entry q es)

lower_rows : (a b : List ℕ) (rs : List KeptRow) → bytes_cmp a b ≡ Less → AboveRows b rs → AboveRows a rs
lower_rows a b [] l h = tt
lower_rows a b (r ∷ rs) l h = (nat_list_cmp_total.trans a b r.key l h.0, lower_rows a b rs l h.1)

lower_entries : (a b : List ℕ) (es : List Entry) → bytes_cmp a b ≡ Less → AboveEntries b es → AboveEntries a es
lower_entries a b [] l h = tt
lower_entries a b (e ∷ es) l h = (nat_list_cmp_total.trans a b e.0.1 l h.0, lower_entries a b es l h.1)

-- what is shown stays above what all else is above
shown_above : (q k : List ℕ) (row : Option (List ℕ)) (rows : List KeptRow) → bytes_cmp q k ≡ Less → AboveRows q rows → AboveRows q (shown_at k row rows)
shown_above q k (Some r) rows l h = (l, h)
shown_above q k None rows l h = h

shown_rows_above : (q : List ℕ) (es : List Entry) → AboveEntries q es → AboveRows q (shown_rows es)
shown_rows_above q [] h = tt
shown_rows_above q (e ∷ es) h = shown_above q e.0.1 e.1 (shown_rows es) h.0 (shown_rows_above q es h.1)

beside_above : (q : List ℕ) (k : KeptRow) (rest : List Entry → List KeptRow) → ((es : List Entry) → AboveEntries q es → AboveRows q (rest es)) → bytes_cmp q k.key ≡ Less → (es : List Entry) → AboveEntries q es
    → AboveRows q (beside k rest es)
beside_above q k rest above l [] h = (l, above [] tt)
beside_above q k rest above l (e ∷ es) h = elim (bytes_cmp k.key e.0.1) as (λ o. AboveRows q (match_ordering o (k ∷ rest (e ∷ es)) (shown_first e (rest es)) (shown_first e (beside k rest es)))) [
  | Less ↦ (l, above (e ∷ es) h)
  | Equal ↦ shown_above q e.0.1 e.1 (rest es) h.0 (above es h.1)
  | Greater ↦ shown_above q e.0.1 e.1 (beside k rest es) h.0 (beside_above q k rest above l es h.1)
]

merged_above : (q : List ℕ) (ks : List KeptRow) → AboveRows q ks → (es : List Entry) → AboveEntries q es → AboveRows q (merged ks es)
merged_above q [] hk es h = shown_rows_above q es h
merged_above q (k ∷ ks) hk es h = beside_above q k (merged ks) (merged_above q ks hk.1) hk.0 es h

shown_rises : (k : List ℕ) (row : Option (List ℕ)) (rows : List KeptRow) → AboveRows k rows → RowsRise rows → RowsRise (shown_at k row rows)
shown_rises k (Some r) rows above h = (above, h)
shown_rises k None rows above h = h

shown_rows_rise : (es : List Entry) → EntriesRise es → RowsRise (shown_rows es)
shown_rows_rise [] h = tt
shown_rows_rise (e ∷ es) h = shown_rises e.0.1 e.1 (shown_rows es) (shown_rows_above e.0.1 es h.0) (shown_rows_rise es h.1)

swapped : (a b : List ℕ) → bytes_cmp a b ≡ Greater → bytes_cmp b a ≡ Less
swapped a b e = nat_list_cmp_total.antisymm b a ∙ ap ordering_reverse e

beside_rises : (k : KeptRow) (ks : List KeptRow) → AboveRows k.key ks → ((es : List Entry) → EntriesRise es → RowsRise (merged ks es)) → (es : List Entry) → EntriesRise es → RowsRise (beside k (merged ks) es)
beside_rises k ks above rise [] h = (merged_above k.key ks above [] tt, rise [] tt)
beside_rises k ks above rise (e ∷ es) h = go (bytes_cmp k.key e.0.1) refl (beside_rises k ks above rise es h.1)
  where
    go : (o : Ordering) → bytes_cmp k.key e.0.1 ≡ o → RowsRise (beside k (merged ks) es) → RowsRise (match_ordering o (k ∷ merged ks (e ∷ es)) (shown_first e (merged ks es)) (shown_first e (beside k (merged ks) es)))
    go Less is later = (merged_above k.key ks above (e ∷ es) (is, lower_entries k.key e.0.1 es is h.0), rise (e ∷ es) h)
    go Equal is later = shown_rises e.0.1 e.1 (merged ks es) (merged_above e.0.1 ks (subst (λ q. AboveRows q ks) (bytes_exact k.key e.0.1 is) above) es h.0) (rise es h.1)
    go Greater is later =
        let l = swapped k.key e.0.1 is in
        shown_rises e.0.1 e.1 (beside k (merged ks) es) (merged_above e.0.1 (k ∷ ks) (l, lower_rows e.0.1 k.key ks l above) es h.0) later

pub merged_rises : (ks : List KeptRow) → RowsRise ks → (es : List Entry) → EntriesRise es → RowsRise (merged ks es)
merged_rises [] hk es h = shown_rows_rise es h
merged_rises (k ∷ ks) hk es h = beside_rises k ks hk.0 (merged_rises ks hk.1) es h

find_row_above : (q : List ℕ) (rs : List KeptRow) → AboveRows q rs → find_row q rs ≡ None
find_row_above q [] h = refl
find_row_above q (r ∷ rs) h = ap (λ o. cond (is_eq o) (Some r.row) (find_row q rs)) h.0 ∙ find_row_above q rs h.1

find_entry_above : (q : List ℕ) (es : List Entry) → AboveEntries q es → find_entry q es ≡ None
find_entry_above q [] h = refl
find_entry_above q (e ∷ es) h = ap (λ o. cond (is_eq o) (Some e.1) (find_entry q es)) h.0 ∙ find_entry_above q es h.1

shown_found : (q k : List ℕ) (row : Option (List ℕ)) (rows : List KeptRow) → AboveRows k rows → find_row q (shown_at k row rows) ≡ cond (is_eq (bytes_cmp q k)) row (find_row q rows)
shown_found q k (Some r) rows h = refl
shown_found q k None rows h = go (is_eq (bytes_cmp q k)) refl
  where
    go : (b : Bool) → is_eq (bytes_cmp q k) ≡ b → find_row q rows ≡ cond b None (find_row q rows)
    go true is = find_row_above q rows (subst (λ p. AboveRows p rows) (sym (bytes_exact q k ((Equal-is _).0 is))) h)
    go false is = refl

shown_rows_found : (q : List ℕ) (es : List Entry) → EntriesRise es → find_row q (shown_rows es) ≡ over (find_entry q es) None
shown_rows_found q [] h = refl
shown_rows_found q (e ∷ es) h =
    shown_found q e.0.1 e.1 (shown_rows es) (shown_rows_above e.0.1 es h.0) ∙ ap (cond (is_eq (bytes_cmp q e.0.1)) e.1) (shown_rows_found q es h.1)
    ∙ over_cond (is_eq (bytes_cmp q e.0.1)) e.1 (find_entry q es) None

beside_found : (q : List ℕ) (k : KeptRow) (ks : List KeptRow) → AboveRows k.key ks → ((es : List Entry) → EntriesRise es → find_row q (merged ks es) ≡ over (find_entry q es) (find_row q ks)) → (es : List Entry) → EntriesRise es
    → find_row q (beside k (merged ks) es) ≡ over (find_entry q es) (find_row q (k ∷ ks))
beside_found q k ks above found [] h = ap (cond (is_eq (bytes_cmp q k.key)) (Some k.row)) (found [] tt)
beside_found q k ks above found (e ∷ es) h = go (bytes_cmp k.key e.0.1) refl (beside_found q k ks above found es h.1)
  where
    go : (o : Ordering) → bytes_cmp k.key e.0.1 ≡ o → find_row q (beside k (merged ks) es) ≡ over (find_entry q es) (find_row q (k ∷ ks))
        → find_row q (match_ordering o (k ∷ merged ks (e ∷ es)) (shown_first e (merged ks es)) (shown_first e (beside k (merged ks) es))) ≡ over (find_entry q (e ∷ es)) (find_row q (k ∷ ks))
    go Less is later = ap (cond (is_eq (bytes_cmp q k.key)) (Some k.row)) (found (e ∷ es) h) ∙ at (is_eq (bytes_cmp q k.key)) refl
      where
        at : (b : Bool) → is_eq (bytes_cmp q k.key) ≡ b → cond b (Some k.row) (over (find_entry q (e ∷ es)) (find_row q ks)) ≡ over (find_entry q (e ∷ es)) (cond b (Some k.row) (find_row q ks))
        at true same = sym (ap (λ o. over o (Some k.row)) (find_entry_above q (e ∷ es) (subst (λ p. AboveEntries p (e ∷ es)) (sym (bytes_exact q k.key ((Equal-is _).0 same))) (is, lower_entries k.key e.0.1 es is h.0))))
        at false other = refl
    go Equal is later =
        let same = bytes_exact k.key e.0.1 is in
        shown_found q e.0.1 e.1 (merged ks es) (merged_above e.0.1 ks (subst (λ p. AboveRows p ks) same above) es h.0) ∙ ap (cond (is_eq (bytes_cmp q e.0.1)) e.1) (found es h.1)
        ∙ over_cond (is_eq (bytes_cmp q e.0.1)) e.1 (find_entry q es) (find_row q ks) ∙ at same (is_eq (bytes_cmp q e.0.1)) refl
      where
        at : k.key ≡ e.0.1 → (b : Bool) → is_eq (bytes_cmp q e.0.1) ≡ b → over (cond b (Some e.1) (find_entry q es)) (find_row q ks) ≡ over (cond b (Some e.1) (find_entry q es)) (find_row q (k ∷ ks))
        at same true eq = refl
        at same false eq = sym (ap (λ b. over (find_entry q es) (cond b (Some k.row) (find_row q ks))) (ap (λ p. is_eq (bytes_cmp q p)) same ∙ eq))
    go Greater is later =
        let l = swapped k.key e.0.1 is in
        shown_found q e.0.1 e.1 (beside k (merged ks) es) (merged_above e.0.1 (k ∷ ks) (l, lower_rows e.0.1 k.key ks l above) es h.0) ∙ ap (cond (is_eq (bytes_cmp q e.0.1)) e.1) later
        ∙ over_cond (is_eq (bytes_cmp q e.0.1)) e.1 (find_entry q es) (find_row q (k ∷ ks))

pub merged_found : (q : List ℕ) (ks : List KeptRow) → RowsRise ks → (es : List Entry) → EntriesRise es → find_row q (merged ks es) ≡ over (find_entry q es) (find_row q ks)
merged_found q [] hk es h = shown_rows_found q es h
merged_found q (k ∷ ks) hk es h = beside_found q k ks hk.0 (merged_found q ks hk.1) es h

-- rows in order and what is found among them
pub found_has : (q v : List ℕ) (rs : List KeptRow) → find_row q rs ≡ Some v → Has rs (record { key = q; row = v })
found_has q v [] h = absurd cc
found_has q v (r ∷ rs) h = go (is_eq (bytes_cmp q r.key)) refl h (found_has q v rs)
  where
    go : (b : Bool) → is_eq (bytes_cmp q r.key) ≡ b → cond b (Some r.row) (find_row q rs) ≡ Some v → (find_row q rs ≡ Some v → Has rs (record { key = q; row = v })) → Has (r ∷ rs) (record { key = q; row = v })
    go true is found later = let at = bytes_exact q r.key ((Equal-is _).0 is) in let row : r.row ≡ v = cc in inl (λ i. record { key = at i; row = sym row i })
    go false is found later = inr (later found)

has_above : (q : List ℕ) (rs : List KeptRow) (r : KeptRow) → AboveRows q rs → Has rs r → bytes_cmp q r.key ≡ Less
has_above q [] r h i = absurd i
has_above q (x ∷ rs) r h (inl same) = ap (λ (y : KeptRow). bytes_cmp q y.key) same ∙ h.0
has_above q (x ∷ rs) r h (inr later) = has_above q rs r h.1 later

pub has_found_row : (rs : List KeptRow) (r : KeptRow) → RowsRise rs → Has rs r → find_row r.key rs ≡ Some r.row
has_found_row [] r h i = absurd i
has_found_row (x ∷ rs) r h (inl same) = subst (λ (y : KeptRow). find_row y.key (x ∷ rs) ≡ Some y.row) (sym same) (ap (λ o. cond (is_eq o) (Some x.row) (find_row x.key rs)) (tied_itself nat_list_cmp_total x.key))
has_found_row (x ∷ rs) r h (inr later) =
    let up = has_above x.key rs r h.0 later in
    let other : bytes_cmp r.key x.key ≡ Greater = nat_list_cmp_total.antisymm r.key x.key ∙ ap ordering_reverse up in
    ap (λ o. cond (is_eq o) (Some x.row) (find_row r.key rs)) other ∙ has_found_row rs r h.1 later
