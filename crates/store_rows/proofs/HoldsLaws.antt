-- Tables that have certain rows: no row, other rows, and one change.
use Rattle.std.proofs.Common.{◌≡◌, ℕ, Bool, true, false, cond, List, Option, Some, None, refl, sym, ap, subst, ◌∙◌}
use Rattle.std.specs.Ordering.{is_eq, eq_by_cmp}
use Rattle.std.specs.FinMap as tree
use Rattle.std.specs.FinMap.{IsAntisymmetric}
use Rattle.std.proofs.lemmas.Cmp.{tied_itself}
use Rattle.std.proofs.lemmas.Option.{none-some as none_apart}
use Rattle.base_lemmas.proofs.Bools.{same_both_ways as bool_same}
use Rattle.base_lemmas.proofs.Orders.{equal_from_is_eq as tied}
use Rattle.store_kv.specs.Order.{places_total}
use Rattle.store_kv.specs.Tables.{Place, Tables, no_rows, place_cmp}
use Rattle.store_rows.specs.Holds.{Holds, with_row}
use Rattle.store_rows.specs.Keys.{Key, spell, FitsKey, key_eq}
use Rattle.store_rows.proofs.KeyLaws.{ReadsAgain, spell_same, key_eq_itself, key_eq_same}

pub holds_empty : (reach : ℕ → Bool) → Holds reach no_rows (λ k. None)
holds_empty reach = record {
  at = λ k fk. tree.get-empty place_cmp (spell k);
  only = λ q r reached e. absurd (none_apart r (sym (tree.get-empty place_cmp q) ∙ e));
}

pub holds_same : (reach : ℕ → Bool) (m : Tables) (rows others : Key → Option (List ℕ)) → ((k : Key) → FitsKey k → rows k ≡ others k) → Holds reach m rows → Holds reach m others
holds_same reach m rows others same h = record { at = λ k fk. h.at k fk ∙ same k fk; only = h.only }

-- ---- one change

module _ (again : ReadsAgain) (exact : IsAntisymmetric place_cmp) (reach : ℕ → Bool) where
  -- keys compare as their places
  eq_by_cmp-spell : (a b : Key) → FitsKey a → FitsKey b → eq_by_cmp place_cmp (spell a) (spell b) ≡ key_eq a b
  eq_by_cmp-spell a b fa fb =
      bool_same (eq_by_cmp place_cmp (spell a) (spell b)) (key_eq a b)
      (λ e. subst (λ (k : Key). key_eq a k ≡ true) (spell_same again a b fa fb (exact (spell a) (spell b) (tied (place_cmp (spell a) (spell b)) e))) (key_eq_itself a))
      (λ e. subst (λ (k : Key). eq_by_cmp place_cmp (spell a) (spell k) ≡ true) (key_eq_same a b e) (ap is_eq (tied_itself places_total (spell a))))

  -- tables that differ at one place
  holds_changed : (m after : Tables) (rows : Key → Option (List ℕ)) (k : Key) (row : Option (List ℕ))
      → ((q : Place) → tree.get after q ≡ cond (eq_by_cmp place_cmp q (spell k)) row (tree.get m q))
      → FitsKey k → Holds reach m rows → Holds reach after (with_row k row rows)
  holds_changed m after rows k row change fits h = record {
    at = λ q fq. change (spell q) ∙ ap (λ b. cond b row (tree.get m (spell q))) (eq_by_cmp-spell q k fq fits) ∙ ap (cond (key_eq q k) row) (h.at q fq);
    only = λ q x reached e. by q x reached (eq_by_cmp place_cmp q (spell k)) refl (sym (change q) ∙ e);
  }
    where
      by : (q : Place) (x : List ℕ) → reach q.0 ≡ true → (b : Bool) → eq_by_cmp place_cmp q (spell k) ≡ b → cond (eq_by_cmp place_cmp q (spell k)) row (tree.get m q) ≡ Some x → (j : Key) × FitsKey j × (q ≡ spell j)
      by q x reached true e f = (k, fits, exact q (spell k) (tied (place_cmp q (spell k)) e))
      by q x reached false e f = h.only q x reached (sym (ap (λ b. cond b row (tree.get m q)) e) ∙ f)

  pub holds_put : (m : Tables) (rows : Key → Option (List ℕ)) (k : Key) (row : List ℕ) → FitsKey k → Holds reach m rows → Holds reach (tree.insert m (spell k) row) (with_row k (Some row) rows)
  holds_put m rows k row = holds_changed m (tree.insert m (spell k) row) rows k (Some row) (tree.get-insert places_total m (spell k) row)

  pub holds_removed : (m : Tables) (rows : Key → Option (List ℕ)) (k : Key) → FitsKey k → Holds reach m rows → Holds reach (tree.remove m (spell k)) (with_row k None rows)
  holds_removed m rows k = holds_changed m (tree.remove m (spell k)) rows k None (tree.get-remove places_total m (spell k))
