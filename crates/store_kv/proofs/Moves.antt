-- Making a batch's changes, and undoing them.
use Rattle.std.proofs.Common.{◌≡◌, ℕ, ◌<◌, ◌≤◌, ◌+◌, List, [], ◌∷◌, ◌++◌, length, take, get_or, Option, Some, None, IsSome, refl, sym, ap, ◌∙◌, arith}
use Rattle.std.proofs.lemmas.List.{take_more}
use Rattle.std.specs.BTreeMap.{BTreeMap, get}
use Rattle.store_kv.specs.declared.keeper.Change.{Change}
use Rattle.store_kv.specs.declared.keeper.Change.TheVariants.{Put, Remove}
use Rattle.store_kv.specs.Tables.{Place, Tables, place_cmp, after, after_change}
use Rattle.store_kv.specs.Laid.{Entry, row_laid, laid, gap}
use Rattle.store_kv.specs.inner.Changes.{entry_for}
use Rattle.store_kv.specs.inner.Merging.{gaps}
use Rattle.store_kv.specs.inner.Changes.{HasPlaces}

pub places_kept : (m n : BTreeMap Place (Option (List ℕ))) (es : List Entry) → ((q : Place) → IsSome (get place_cmp m q) → IsSome (get place_cmp n q)) → HasPlaces m es → HasPlaces n es
places_kept m n [] keeps h = tt
places_kept m n (e ∷ es) keeps h = (keeps e.0 h.0, places_kept m n es keeps h.1)

pub places_push : (m : BTreeMap Place (Option (List ℕ))) (es : List Entry) (e : Entry) → HasPlaces m es → IsSome (get place_cmp m e.0) → HasPlaces m (es ++ e ∷ [])
places_push m [] e h is = (is, tt)
places_push m (d ∷ es) e h is = (h.0, places_push m es e h.1 is)

pub places_popped : (m : BTreeMap Place (Option (List ℕ))) (es : List Entry) (e : Entry) → HasPlaces m (es ++ e ∷ []) → HasPlaces m es × IsSome (get place_cmp m e.0)
places_popped m [] e h = (tt, h.0)
places_popped m (d ∷ es) e h = let r = places_popped m es e h.1 in ((h.0, r.0), r.1)

pub laid_push : (es : List Entry) (e : Entry) (m : Tables) → laid (es ++ e ∷ []) m ≡ laid es (row_laid e.0 e.1 m)
laid_push [] e m = refl
laid_push (d ∷ es) e m = ap (row_laid d.0 d.1) (laid_push es e m)

pub after_push : (cs : List Change) (c : Change) (m : Tables) → after (cs ++ c ∷ []) m ≡ after_change c (after cs m)
after_push [] c m = refl
after_push (d ∷ cs) c m = after_push cs c (after_change d m)

pub made : (c : Change) (m : Tables) → row_laid (entry_for c).0 (entry_for c).1 m ≡ after_change c m
made (Put t k r) m = refl
made (Remove t k) m = refl

gaps_push : (xs : List Entry) (x : Entry) → gaps (xs ++ x ∷ []) ≡ gaps xs + gap x.1
gaps_push [] x = omega arith
gaps_push (y ∷ xs) x = omega (arith, gaps_push xs x)

pub gaps_more : (xs : List Entry) (i : ℕ) (x : Entry) → i < length xs → x ≡ get_or xs i x → gaps (take (i + 1) xs) ≡ gaps (take i xs) + gap x.1
gaps_more xs i x low is = ap gaps (take_more xs i x low ∙ ap (λ y. take i xs ++ y ∷ []) (sym is)) ∙ gaps_push (take i xs) x

pub gap_most : (r : Option (List ℕ)) → gap r ≤ 1
gap_most (Some r) = omega arith
gap_most None = omega arith
