-- What a page gives is the first of the rows that stand there.
use Rattle.std.proofs.Common.{◌≡◌, ℕ, zero, suc, Bool, true, Option, Some, None, List, [], ◌∷◌, refl, sym, ap, subst, ◌∙◌, inl, inr, map, take}
use Rattle.std.specs.List.{AllByRecursion}
use Rattle.std.proofs.lemmas.List.{take-map}
use Rattle.base_lemmas.proofs.Lists.{same_head as head_is, same_tail as tail_is}
use Rattle.std.proofs.lemmas.Option.{same_Some as some_is}
use Rattle.store_codec.specs.Plain.{whole}
use Rattle.store_codec.specs.Shapes.{taken}
use Rattle.store_kv.specs.declared.keeper.KeptRow.{KeptRow}
use Rattle.store_kv.specs.Tables.{Has, IsListing, Tables, rows_between}
use Rattle.store_rows.specs.Forms.{FitsForm, Form, kept_as, key_bytes, row_bytes}
use Rattle.store_rows.specs.Holds.{Holds}
use Rattle.store_rows.specs.Keys.{Key}
use Rattle.store_rows.specs.Listings.{ListsTo, rows_to}
use Rattle.store_rows.proofs.KeyLaws.{ReadsAgain}
use Rattle.store_rows.proofs.Listings.{listed_is}
use Rattle.store_rows.proofs.RowLaws.{one_row}

all_of : {X : Type 0} (P : X → Type 0) (xs : List X) → ((x : X) → Has xs x → P x) → AllByRecursion P xs
all_of P [] h = tt
all_of P (x ∷ xs) h = (h x (inl refl), all_of P xs (λ y has. h y (inr has)))

all_take : {X : Type 0} (P : X → Type 0) (n : ℕ) (xs : List X) → AllByRecursion P xs → AllByRecursion P (take n xs)
all_take P zero xs h = tt
all_take P (suc n) [] h = tt
all_take P (suc n) (x ∷ xs) h = (h.0, all_take P n xs h.1)

not_nil : {X : Type 0} (x : X) (xs : List X) → ◌≡◌ {A = List X} (x ∷ xs) [] → ⊥
not_nil x xs e = cc

module _ {U : Type 0} (f : Form U) (again : ReadsAgain) where
  same_row : (u v : U) → FitsForm f u → FitsForm f v → kept_as f u ≡ kept_as f v → u ≡ v
  same_row u v fu fv e =
      let keys : key_bytes f u ≡ key_bytes f v = ap (λ (r : KeptRow). r.key) e in
      one_row f again u v fu fv
      (some_is (f.keyed u) (f.keyed v) (sym (again f.key (f.keyed u) fu.0) ∙ ap (whole (taken f.key)) keys ∙ again f.key (f.keyed v) fv.0))
      (ap (λ (r : KeptRow). r.row) e)

  same_rows : (us vs : List U) → AllByRecursion (FitsForm f) us → AllByRecursion (FitsForm f) vs → map (kept_as f) us ≡ map (kept_as f) vs → us ≡ vs
  same_rows [] [] a b e = refl
  same_rows [] (v ∷ vs) a b e = absurd (not_nil (kept_as f v) (map (kept_as f) vs) (sym e))
  same_rows (u ∷ us) [] a b e = absurd (not_nil (kept_as f u) (map (kept_as f) us) e)
  same_rows (u ∷ us) (v ∷ vs) a b e =
      let h : u ≡ v = same_row u v a.0 b.0 (head_is (kept_as f u) (kept_as f v) (map (kept_as f) us) (map (kept_as f) vs) e) in
      let t : us ≡ vs = same_rows us vs a.1 b.1 (tail_is (kept_as f u) (kept_as f v) (map (kept_as f) us) (map (kept_as f) vs) e) in
      λ i. h i ∷ t i

  module _ (only_one : (m : Tables) (table : ℕ) (from below : List ℕ) (kept : List KeptRow) → IsListing m table from below kept → kept ≡ rows_between m table from below)
      (reach : ℕ → Bool) (m : Tables) (rows : Key → Option (List ℕ)) (from : List ℕ) where
    fits_to : (above : Option (List ℕ)) (listed : List U) → ListsTo f rows from above listed → AllByRecursion (FitsForm f) listed
    fits_to (Some above) listed l = all_of (FitsForm f) listed (λ u has. (l.sound u has).0)
    fits_to None listed l = subst (AllByRecursion (FitsForm f)) (sym l) tt

    kept_to : (above : Option (List ℕ)) (listed : List U) → reach f.table ≡ true → Holds reach m rows → ListsTo f rows from above listed → map (kept_as f) listed ≡ rows_to m f.table from above
    kept_to (Some above) listed reached holds l = listed_is f reach m rows from above holds reached only_one listed l
    kept_to None listed reached holds l = ap (map (kept_as f)) l

    pub first_kept : (above : Option (List ℕ)) (listed : List U) (limit : ℕ) → reach f.table ≡ true → Holds reach m rows → ListsTo f rows from above listed
        → AllByRecursion (FitsForm f) (take limit listed) × (map (kept_as f) (take limit listed) ≡ take limit (rows_to m f.table from above))
    first_kept above listed limit reached holds l =
        (all_take (FitsForm f) limit listed (fits_to above listed l), sym (take-map (kept_as f) limit listed) ∙ ap (take limit) (kept_to above listed reached holds l))

    pub page_is : (above : Option (List ℕ)) (listed given : List U) (limit : ℕ) → reach f.table ≡ true → Holds reach m rows → ListsTo f rows from above listed
        → AllByRecursion (FitsForm f) given → map (kept_as f) given ≡ take limit (rows_to m f.table from above) → given ≡ take limit listed
    page_is above listed given limit reached holds l fits is =
        let first = first_kept above listed limit reached holds l in
        same_rows given (take limit listed) fits first.0 (is ∙ sym first.1)
