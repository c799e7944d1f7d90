-- A listing of an interval is what a scan answers.
use Rattle.std.proofs.Common.{◌≡◌, inl, inr, ℕ, List, [], ◌∷◌, Bool, true, false, cond, map, filter, Option, Some, None, is_eq, refl, sym, ap, ◌∙◌, true≢false}
use Rattle.std.proofs.lemmas.Bool.{and_parts, and_from}
use Rattle.std.proofs.lemmas.Cmp.{tied_itself}
use Rattle.std.specs.Ordering.{eq_by_cmp}
use Rattle.std.specs.Cmp.{Equal-is, unsigned_Decides}
use Rattle.std.specs.FinMap.{find, entries, entries_sorted, get, get-entries}
use Rattle.std.specs.FinMap.Entries.{same_entries, find-where_key, is_sorted-where_key}
use Rattle.store_kv.specs.declared.keeper.KeptRow.{KeptRow}
use Rattle.store_kv.specs.Tables.{Place, Tables, place_cmp, is_between, is_in, shown_row, rows_among, rows_between, Has, entry_of, IsListing}
use Rattle.store_kv.specs.Order.{places_total}
use Rattle.store_kv.proofs.Places.{places_exact}

abbrev SamePlace : Place → Place → Type 0
SamePlace a b = a ≡ b

-- what a list of entries has at a place
pub find_entries : (es : List (Place × List ℕ)) (q : Place) (o : Option (List ℕ)) → ((e : Place × List ℕ) → Has es e → SamePlace q e.0 → o ≡ Some e.1)
    → (((e : Place × List ℕ) → Has es e → SamePlace q e.0 → ⊥) → None ≡ o) → find place_cmp q es ≡ o
find_entries [] q o each none = none (λ e h same. h)
find_entries (e ∷ es) q o each none = go (eq_by_cmp place_cmp q e.0) refl (λ other. find_entries es q o (λ d h. each d (inr h)) (λ nothing. none (λ d h same. elim h [ inl first ↦ other (same ∙ ap (λ (x : Place × List ℕ). x.0) first) | inr later ↦ nothing d later same ])))
  where
    go : (b : Bool) → eq_by_cmp place_cmp q e.0 ≡ b → ((SamePlace q e.0 → ⊥) → find place_cmp q es ≡ o) → cond b (Some e.1) (find place_cmp q es) ≡ o
    go true is rest = sym (each e (inl refl) (places_exact q e.0 ((Equal-is _).0 is)))
    go false is rest = rest (λ same. true≢false (sym (ap (λ p. eq_by_cmp place_cmp p e.0) same ∙ ap is_eq (tied_itself places_total e.0)) ∙ is))

among_filter : (t : ℕ) (from below : List ℕ) (es : List (Place × List ℕ)) → rows_among t from below es ≡ map shown_row (filter (λ e. is_in t from below e.0) es)
among_filter t from below [] = refl
among_filter t from below (e ∷ es) = elim (is_in t from below e.0) as (λ b. cond b (shown_row e ∷ rows_among t from below es) (rows_among t from below es) ≡ map shown_row (cond b (e ∷ filter (λ d. is_in t from below d.0) es) (filter (λ d. is_in t from below d.0) es)))
    [ true ↦ ap (λ l. shown_row e ∷ l) (among_filter t from below es) | false ↦ among_filter t from below es ]

back : (t : ℕ) (rows : List KeptRow) → map shown_row (map (entry_of t) rows) ≡ rows
back t [] = refl
back t (r ∷ rows) = ap (λ l. r ∷ l) (back t rows)

has_entry : (t : ℕ) (rows : List KeptRow) (e : Place × List ℕ) → Has (map (entry_of t) rows) e → (r : KeptRow) × Has rows r × (e ≡ entry_of t r)
has_entry t [] e h = absurd h
has_entry t (r ∷ rows) e (inl same) = (r, inl refl, same)
has_entry t (r ∷ rows) e (inr later) = let it = has_entry t rows e later in (it.0, inr it.1, it.2)

pub entry_has : (t : ℕ) (rows : List KeptRow) (r : KeptRow) → Has rows r → Has (map (entry_of t) rows) (entry_of t r)
entry_has t [] r h = absurd h
entry_has t (x ∷ rows) r (inl same) = inl (ap (entry_of t) same)
entry_has t (x ∷ rows) r (inr later) = inr (entry_has t rows r later)

-- A listing is the rows in the interval, so two listings are one.
pub listed : (m : Tables) (t : ℕ) (from below : List ℕ) (rows : List KeptRow) → IsListing m t from below rows → rows ≡ rows_between m t from below
unfolding rows_between
listed m t from below rows it =
    sym (back t rows) ∙ ap (map shown_row) (same_entries place_cmp places_total places_exact (map (entry_of t) rows) (filter (λ e. is_in t from below e.0) (entries m)) it.rises
    (is_sorted-where_key place_cmp (is_in t from below) (entries m) (entries_sorted m)) same) ∙ sym (among_filter t from below (entries m))
  where
    finds : (q : Place) (b : Bool) → is_in t from below q ≡ b → find place_cmp q (map (entry_of t) rows) ≡ cond b (get m q) None
    finds q true inside =
        let p = and_parts _ _ inside in
        let t_is : q.0 ≡ t = (unsigned_Decides q.0 t).0 p.0 in
        find_entries _ q _ (λ e h at.
        let r = has_entry t rows e h in
        let s = it.sound r.0 r.1 in
        ap (get m) (at ∙ ap (λ (d : Place × List ℕ). d.0) r.2) ∙ s.1 ∙ sym (ap (λ (d : Place × List ℕ). Some d.1) r.2)) (λ nothing. by (get m q) refl nothing t_is p.1)
      where
        by : (o : Option (List ℕ)) → get m q ≡ o → ((e : Place × List ℕ) → Has (map (entry_of t) rows) e → SamePlace q e.0 → ⊥) → q.0 ≡ t → is_between from below q.1 ≡ true → None ≡ get m q
        by None is nothing t_is in_range = sym is
        by (Some v) is nothing t_is in_range =
            let at : SamePlace q (t, q.1) = λ i. (t_is i, q.1) in
            absurd (nothing _ (entry_has t rows _ (it.complete q.1 v in_range (sym (ap (get m) at) ∙ is))) at)
    finds q false outside = find_entries _ q _ (λ e h at.
        let r = has_entry t rows e h in
        let s = it.sound r.0 r.1 in
        let place = at ∙ ap (λ (d : Place × List ℕ). d.0) r.2 in
        absurd (true≢false (sym (ap (is_in t from below) place ∙ and_from _ _ ((unsigned_Decides t t).1 refl) s.0) ∙ outside))) (λ _. refl)

    same : (q : Place) → find place_cmp q (map (entry_of t) rows) ≡ find place_cmp q (filter (λ e. is_in t from below e.0) (entries m))
    same q =
        finds q (is_in t from below q) refl ∙ sym (find-where_key place_cmp (is_in t from below) q (λ x tie. ap (is_in t from below) (sym (places_exact q x tie))) (entries m)
        ∙ ap (λ o. cond (is_in t from below q) o None) (sym (get-entries m q)))
