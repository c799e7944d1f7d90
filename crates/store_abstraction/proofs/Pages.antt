-- A page that was read has the first of the rows that the tables have there.
use Rattle.std.proofs.Common.{◌≡◌, ℕ, IsTrue, Option, List, refl, map, take}
use Rattle.std.specs.Prelude.{Bool, Result, Ok, Err, Vec}
use Rattle.std.specs.List.{AllByRecursion}
use Rattle.store_kv.specs.Tables.{Tables}
use Rattle.store_rows.specs.declared.fail.StoreFail.{StoreFail}
use Rattle.store_rows.specs.declared.fail.StoreFail.TheVariants.{Keeper, Memory, Damaged}
use Rattle.store_rows.specs.Forms.{FitsForm, Form, kept_as}
use Rattle.store_rows.specs.Holds.{Holds}
use Rattle.store_rows.specs.Keys.{Key}
use Rattle.store_rows.specs.Listings.{ListsTo, rows_to}
use Rattle.store_rows.specs.Reads.{ListsAs}
use Rattle.store_abstraction.specs.Stands.{all_tables}

-- the first rows of a page are kept there, and no others are read, as `store_rows` says
abbrev pub KeptRows : {U : Type 0} → Form U → Type 0
KeptRows {U} f = (reach : ℕ → Bool) (m : Tables) (rows : Key → Option (List ℕ)) (from : List ℕ) (above : Option (List ℕ)) (listed : List U) (limit : ℕ) → IsTrue (reach f.table) → Holds reach m rows → ListsTo f rows from above listed
    → AllByRecursion (FitsForm f) (take limit listed) × (map (kept_as f) (take limit listed) ≡ take limit (rows_to m f.table from above))

abbrev pub PageRows : {U : Type 0} → Form U → Type 0
PageRows {U} f = (reach : ℕ → Bool) (m : Tables) (rows : Key → Option (List ℕ)) (from : List ℕ) (above : Option (List ℕ)) (listed given : List U) (limit : ℕ) → IsTrue (reach f.table) → Holds reach m rows → ListsTo f rows from above listed
    → AllByRecursion (FitsForm f) given → map (kept_as f) given ≡ take limit (rows_to m f.table from above) → given ≡ take limit listed

pub record PageLaws {U : Type 0} (f : Form U) : Type 0 where
  pub kept : KeptRows f
  pub page : PageRows f

-- these rows are read, and they aren't damaged
abbrev pub GivesRows : {U A : Type 0} → List U → Result (Vec U A) StoreFail → Type 0
GivesRows listed (Ok rows) = rows.items ≡ listed
GivesRows listed (Err Damaged) = ⊥
GivesRows listed (Err Keeper) = Unit {0}
GivesRows listed (Err Memory) = Unit {0}

pub page_gives : {U A : Type 0} (f : Form U) → PageLaws f → (m : Tables) (rows : Key → Option (List ℕ)) → Holds all_tables m rows → (from : List ℕ) (above : Option (List ℕ)) (listed : List U) (limit : ℕ) → ListsTo f rows from above listed
    → (r : Result (Vec U A) StoreFail) → ListsAs f (take limit (rows_to m f.table from above)) r → GivesRows (take limit listed) r
page_gives f laws m rows holds from above listed limit l (Ok given) e = laws.page all_tables m rows from above listed given.items limit refl holds l e.1 e.0
page_gives f laws m rows holds from above listed limit l (Err Damaged) e = let k = laws.kept all_tables m rows from above listed limit refl holds l in e (take limit listed) k.0 k.1
page_gives f laws m rows holds from above listed limit l (Err Keeper) e = tt
page_gives f laws m rows holds from above listed limit l (Err Memory) e = tt
