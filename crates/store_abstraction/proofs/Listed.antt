-- The rows of an interval within one organisation's places.
use Rattle.std.proofs.Common.{◌≡◌, ◌∙◌, ℕ, true, cond, IsTrue, List, None, sym, ap}
use Rattle.std.specs.FinMap as map
use Rattle.std.specs.FinMap.{IsAntisymmetric}
use Rattle.store_kv.specs.Tables.{IsListing, Tables, is_between, place_cmp, row_at, rows_between}
use Rattle.store_kv.specs.declared.keeper.KeptRow.{KeptRow}
use Rattle.store_abstraction.specs.Local.{is_place_of, part_of}
use Rattle.store_abstraction.proofs.Places.{part_at}

abbrev pub Listings : Type 0
Listings = (m : Tables) (table : ℕ) (from below : List ℕ) → IsListing m table from below (rows_between m table from below)

abbrev pub Listed : Type 0
Listed = (m : Tables) (table : ℕ) (from below : List ℕ) (rows : List KeptRow) → IsListing m table from below rows → rows ≡ rows_between m table from below

pub same_rows : IsAntisymmetric place_cmp → Listings → Listed → (m : Tables) (n table : ℕ) (from below : List ℕ) → ((key : List ℕ) → IsTrue (is_between from below key) → is_place_of n (table, key) ≡ true)
    → rows_between m table from below ≡ rows_between (part_of n m) table from below
same_rows exact listings listed m n table from below within =
    let l = listings m table from below in
    listed (part_of n m) table from below (rows_between m table from below) (record {
      rises = l.rises;
      sound = λ r has. let s = l.sound r has in (s.0, there r.key s.0 ∙ s.1);
      complete = λ key row inside e. l.complete key row inside (sym (there key inside) ∙ e);
    })
  where
    there : (key : List ℕ) → IsTrue (is_between from below key) → row_at (part_of n m) table key ≡ row_at m table key
    there key inside = part_at exact n m (table, key) ∙ ap (λ b. cond b (map.get m (table, key)) None) (within key inside)
