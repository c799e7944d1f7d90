-- What a change of the table's rows makes of the map.
use Rattle.std.proofs.Common.{◌≡◌, ◌⊎◌, ℕ, pos, List, Bool, true, false, cond, Some, None, refl, sym, ap, ◌∙◌, true≢false}
use Rattle.std.specs.Ordering.{eq_by_cmp}
use Rattle.std.specs.FinMap.{insert, remove, get-insert, get-remove, same_map}
use Rattle.std.proofs.lemmas.Cmp.{tied_itself}
use Rattle.base_lemmas.proofs.Orders.{equal_from_is_eq as tied}
use Rattle.sqlite.specs.declared.types.Value.TheVariants.{Int, Blob}
use Rattle.sqlite.specs.Order.{Row, column, bytes}
use Rattle.sqlite.specs.Tree.{Trees}
use Rattle.sqlite_rules.specs.Lists.{Has}
use Rattle.store_kv.specs.Tables.{Place, place_cmp, row_at}
use Rattle.store_kv.proofs.Places.{places_exact}
use Rattle.store_kv.specs.Order.{places_total}
use Rattle.store_sqlite.specs.Kept.{tables_in}
use Rattle.store_sqlite.proofs.Rows.{IsAt, IsKeptRow, row_is}

-- the rows of a table, of which no two have one key
pub record AreRows (db : Trees) : Type 0 where
  pub kept : (x : Row) → Has (db 0) x → IsKeptRow x
  pub one : (t : ℕ) (k : List ℕ) (x y : Row) → Has (db 0) x → Has (db 0) y → IsAt t k x → IsAt t k y → x ≡ y

module _ (db : Trees) (rows : AreRows db) (t : ℕ) (k : List ℕ) where
  pub here_is : (x : Row) → Has (db 0) x → IsAt t k x → row_at (tables_in db) t k ≡ Some (bytes (column x 3))
  here_is x h at = row_is t k db rows.kept _ (λ y i also. ap (λ r. Some (bytes (column r 3))) (rows.one t k x y h i at also)) (λ none. absurd (none x h at))

  pub none_is : ((x : Row) → Has (db 0) x → IsAt t k x → ⊥) → row_at (tables_in db) t k ≡ None
  none_is none = row_is t k db rows.kept None (λ x h at. absurd (none x h at)) (λ _. refl)

abbrev SamePlace : Place → Place → Type 0
SamePlace a b = a ≡ b

same_place : (a b : Place) → eq_by_cmp place_cmp a b ≡ true → a ≡ b
same_place a b h = places_exact a b (tied _ h)

apart : (t : ℕ) (k : List ℕ) (a b : Place) → eq_by_cmp place_cmp a b ≡ false → a ≡ b → ⊥
apart t k a b h e = true≢false (sym (ap (λ p. eq_by_cmp place_cmp p b) e ∙ ap Rattle.std.specs.Ordering.is_eq (tied_itself places_total b)) ∙ h)

module _ (db new : Trees) (old : AreRows db) (now : AreRows new) (t : ℕ) (k : List ℕ) where
  -- every row stays but that of the key
  pub record KeepsOthers : Type 0 where
    pub from : (x : Row) → Has (new 0) x → (IsAt t k x → ⊥) → Has (db 0) x
    pub stays : (x : Row) → Has (db 0) x → (IsAt t k x → ⊥) → Has (new 0) x

  others : KeepsOthers → ((x : Row) → Has (db 0) x → IsAt t k x ⊎ (IsAt t k x → ⊥)) → (u : ℕ) (j : List ℕ) → (SamePlace (u, j) (t, k) → ⊥) → row_at (tables_in new) u j ≡ row_at (tables_in db) u j
  others keeps decide u j other =
      row_is u j new now.kept _ (λ x h at. here_is db old u j x (keeps.from x h (not_here x at)) at)
      (λ none. sym (none_is db old u j (λ x h at. none x (keeps.stays x h (not_here x at)) at)))
    where
      not_here : (x : Row) → IsAt u j x → IsAt t k x → ⊥
      not_here x a b =
          let one : Int (pos u) ≡ Int (pos t) = sym a.t_is ∙ b.t_is in
          let two : Blob j ≡ Blob k = sym a.k_is ∙ b.k_is in
          let n : u ≡ t = cc in
          let m : j ≡ k = cc in
          other (λ i. (n i, m i))

  pub map_removed : KeepsOthers → ((x : Row) → Has (db 0) x → IsAt t k x ⊎ (IsAt t k x → ⊥)) → ((x : Row) → Has (new 0) x → IsAt t k x → ⊥) → tables_in new ≡ remove (tables_in db) (t, k)
  map_removed keeps decide gone = same_map places_total places_exact _ _ (λ q. go q (eq_by_cmp place_cmp q (t, k)) refl ∙ sym (get-remove places_total (tables_in db) (t, k) q))
    where
      go : (q : Place) (b : Bool) → eq_by_cmp place_cmp q (t, k) ≡ b → row_at (tables_in new) q.0 q.1 ≡ cond (eq_by_cmp place_cmp q (t, k)) None (row_at (tables_in db) q.0 q.1)
      go q true e = rw e (ap (λ (p : Place). row_at (tables_in new) p.0 p.1) (same_place q (t, k) e) ∙ none_is new now t k gone)
      go q false e = rw e (others keeps decide q.0 q.1 (apart t k q (t, k) e))

  pub map_put : KeepsOthers → ((x : Row) → Has (db 0) x → IsAt t k x ⊎ (IsAt t k x → ⊥)) → (x : Row) → Has (new 0) x → IsAt t k x → tables_in new ≡ insert (tables_in db) (t, k) (bytes (column x 3))
  map_put keeps decide x h at = same_map places_total places_exact _ _ (λ q. go q (eq_by_cmp place_cmp q (t, k)) refl ∙ sym (get-insert places_total (tables_in db) (t, k) (bytes (column x 3)) q))
    where
      go : (q : Place) (b : Bool) → eq_by_cmp place_cmp q (t, k) ≡ b → row_at (tables_in new) q.0 q.1 ≡ cond (eq_by_cmp place_cmp q (t, k)) (Some (bytes (column x 3))) (row_at (tables_in db) q.0 q.1)
      go q true e = rw e (ap (λ (p : Place). row_at (tables_in new) p.0 p.1) (same_place q (t, k) e) ∙ here_is new now t k x h at)
      go q false e = rw e (others keeps decide q.0 q.1 (apart t k q (t, k) e))
