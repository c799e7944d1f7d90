-- The rows of an interval from what they stand for, in the order of their keys, and back.
use Rattle.std.proofs.Common.{◌≡◌, ℕ, Bool, true, ◌&&◌, T, List, [], ◌∷◌, map, Option, Some, refl, sym, ap, ap₂, subst, ◌∙◌, inl, inr}
use Rattle.std.proofs.lemmas.Cmp.{tied_itself}
use Rattle.std.specs.Cmp.{nat_cmp_total}
use Rattle.std.specs.List.{AllByRecursion}
use Rattle.std.specs.Ordering.{ordering_then, is_lt}
use Rattle.std.specs.FinMap as tree
use Rattle.std.specs.FinMap.{is_sorted}
use Rattle.std.specs.FinMap.Entries.{below_all}
use Rattle.std.proofs.lemmas.Option.{same_Some as some_is}
use Rattle.store_kv.specs.declared.keeper.KeptRow.{KeptRow}
use Rattle.store_kv.specs.Tables.{Place, Tables, place_cmp, bytes_cmp, is_between, rows_between, Has, IsListing, entry_of}
use Rattle.store_rows.specs.Forms.{Form, key_of, key_bytes, row_bytes, FitsForm, kept_as}
use Rattle.store_rows.specs.Holds.{Holds}
use Rattle.store_rows.specs.Keys.{Key, spell, FitsKey}
use Rattle.store_rows.specs.Listings.{with_key, ListsBetween}
use Rattle.store_rows.proofs.KeyLaws.{ReadsAgain, spell_same}

has_map : {X Y : Type 0} (f : X → Y) (xs : List X) (y : Y) → Has (map f xs) y → (x : X) × Has xs x × (y ≡ f x)
has_map f [] y h = absurd h
has_map f (x ∷ xs) y (inl same) = (x, inl refl, same)
has_map f (x ∷ xs) y (inr later) = let it = has_map f xs y later in (it.0, inr it.1, it.2)

map_has : {X Y : Type 0} (f : X → Y) (xs : List X) (x : X) → Has xs x → Has (map f xs) (f x)
map_has f [] x h = absurd h
map_has f (z ∷ xs) x (inl same) = inl (ap f same)
map_has f (z ∷ xs) x (inr later) = inr (map_has f xs x later)

all_has : {X : Type 0} (P : X → Type 0) (xs : List X) (x : X) → AllByRecursion P xs → Has xs x → P x
all_has P [] x all h = absurd h
all_has P (z ∷ xs) x all (inl same) = subst P (sym same) all.0
all_has P (z ∷ xs) x all (inr later) = all_has P xs x all.1 later

module _ {U : Type 0} (f : Form U) where
  -- in one table places are ordered as keys
  place_order : (a b : List ℕ) → place_cmp (f.table, a) (f.table, b) ≡ bytes_cmp a b
  place_order a b = ap (λ o. ordering_then o (bytes_cmp a b)) (tied_itself nat_cmp_total f.table)

  below_same : (a : List ℕ) (us : List U) → below_all place_cmp (f.table, a) (map (entry_of f.table) (map (kept_as f) us)) ≡ below_all bytes_cmp a (map (with_key f) us)
  below_same a [] = refl
  below_same a (u ∷ us) = ap₂ (λ (p q : Bool). p && q) (ap is_lt (place_order a (key_bytes f u))) (below_same a us)

  sorted_same : (us : List U) → is_sorted place_cmp (map (entry_of f.table) (map (kept_as f) us)) ≡ is_sorted bytes_cmp (map (with_key f) us)
  sorted_same [] = refl
  sorted_same (u ∷ us) = ap₂ (λ (p q : Bool). p && q) (below_same (key_bytes f u) us) (sorted_same us)

  module _ (reach : ℕ → Bool) (m : Tables) (rows : Key → Option (List ℕ)) (from below : List ℕ) (h : Holds reach m rows) where
    -- what stands at a row's place is what its key has
    at_row : (u : U) → FitsForm f u → tree.get m (f.table, key_bytes f u) ≡ rows (key_of f u)
    at_row u fits = ap (tree.get m) (sym (f.placed (f.keyed u))) ∙ h.at (key_of f u) (f.fits (f.keyed u) fits.0)

    key_there : (k : Key) → (spell k).0 ≡ f.table → FitsKey k → tree.get m (f.table, (spell k).1) ≡ rows k
    key_there k is fk = ap (λ (t : ℕ). tree.get m (t, (spell k).1)) (sym is) ∙ h.at k fk

    module _ (reached : reach f.table ≡ true) where
      module _ (only_one : (m : Tables) (table : ℕ) (from below : List ℕ) (kept : List KeptRow) → IsListing m table from below kept → kept ≡ rows_between m table from below) where
        pub listed_is : (listed : List U) → ListsBetween f rows from below listed → map (kept_as f) listed ≡ rows_between m f.table from below
        listed_is listed l =
            only_one m f.table from below (map (kept_as f) listed) (record {
              rises = subst T (sym (sorted_same listed)) l.rises;
              sound = λ r has.
                  let it = has_map (kept_as f) listed r has in
                  let s = l.sound it.0 it.1 in (
                    ap (λ (x : KeptRow). is_between from below x.key) it.2 ∙ s.1,
                    ap (λ (x : KeptRow). tree.get m (f.table, x.key)) it.2 ∙ at_row it.0 s.0 ∙ s.2 ∙ ap (λ (x : KeptRow). Some x.row) (sym it.2),
                  );
              complete = λ key row inside e.
                  let o = h.only (f.table, key) row reached e in
                  let k = o.0 in
                  let is : (spell k).0 ≡ f.table = ap (λ (p : Place). p.0) (sym o.2) in
                  let key_is : (spell k).1 ≡ key = ap (λ (p : Place). p.1) (sym o.2) in
                  let has_row : rows k ≡ Some row = sym (h.at k o.1) ∙ ap (tree.get m) (sym o.2) ∙ e in
                  let c = l.complete k row o.1 is (ap (is_between from below) key_is ∙ inside) has_row in
                  let u = c.0 in
                  let s = l.sound u c.1 in
                  let bytes : key_bytes f u ≡ key = ap (λ (p : Place). p.1) (sym (f.placed (f.keyed u)) ∙ ap spell c.2) ∙ key_is in
                  let text : row_bytes f u ≡ row = some_is (row_bytes f u) row (sym s.2 ∙ ap rows c.2 ∙ has_row) in
                  let made : ◌≡◌ {A = KeptRow} (kept_as f u) (record { key = key; row = row }) = (λ t. record { key = bytes t; row = text t }) in
                  subst (Has (map (kept_as f) listed)) made (map_has (kept_as f) listed u c.1);
            })

      module _ (again : ReadsAgain) (is_listing : (m : Tables) (table : ℕ) (from below : List ℕ) → IsListing m table from below (rows_between m table from below)) where
        pub lists_are : (listed : List U) → AllByRecursion (FitsForm f) listed → map (kept_as f) listed ≡ rows_between m f.table from below → ListsBetween f rows from below listed
        lists_are listed all same = record {
          rises = subst T (sorted_same listed) l.rises;
          sound = λ u has.
              let fits = all_has (FitsForm f) listed u all has in
              let s = l.sound (kept_as f u) (map_has (kept_as f) listed u has) in
              (fits, s.0, sym (at_row u fits) ∙ s.1);
          complete = λ k row fk is inside e.
              let there = l.complete (spell k).1 row inside (key_there k is fk ∙ e) in
              let it = has_map (kept_as f) listed (record { key = (spell k).1; row = row }) there in
              let u = it.0 in
              let fits = all_has (FitsForm f) listed u all it.1 in
              let place : spell (key_of f u) ≡ spell k = f.placed (f.keyed u) ∙ sym (λ t. (is t, (it.2 t).key)) in
              (u, it.1, spell_same again (key_of f u) k (f.fits (f.keyed u) fits.0) fk place);
        }
          where
            l : IsListing m f.table from below (map (kept_as f) listed)
            l = subst (IsListing m f.table from below) (sym same) (is_listing m f.table from below)
