-- What the SELECT of an interval answers.
use Rattle.std.proofs.Common.{◌≡◌, ◌⊎◌, inl, inr, ℕ, ℤ, pos, List, [], ◌∷◌, map, filter, take, take-take, codes, zero, suc, Bool, true, false, cond, Option, Some, None, Ordering, Less, Equal, Greater, is_eq, is_lt, is_gt, int_eq, T, IsTrue, refl, sym, ap, ap₂, subst, ◌∙◌, true≢false, arith}
use Rattle.std.proofs.lemmas.Bool.{cases_Bool, and_parts, and_from}
use Rattle.std.proofs.lemmas.Cmp.{tied_itself, nat_list_cmp_total}
use Rattle.std.proofs.lemmas.List.Sorted.{IsPermutation-sym}
use Rattle.std.specs.List.{AllByRecursion, list_any}
use Rattle.std.specs.Cmp.{IsTotalOrder, int_eq_equiv, nat_cmp_total}
use Rattle.std.specs.Ordering.{is_ge, is_le, ordering_then, ordering_reverse}
use Rattle.std.specs.FinMap.Entries.{is_sorted, below_all}
use Rattle.std.proofs.lemmas.Simd.{map-map as map_map}
use Rattle.base_lemmas.proofs.Bools.{T-and_from as both_T}
use Rattle.base_lemmas.proofs.Orders.{is_ge-reverse as flips, equal_from_is_eq as tied}
use Rattle.sqlite.specs.declared.types.Value.TheVariants.{Int, Blob}
use Rattle.sqlite.specs.Order.{Row, column, bytes}
use Rattle.sqlite.specs.Tree.{Trees, rowid, IsTable}
use Rattle.sqlite.specs.Term.{Term, col}
use Rattle.sqlite.specs.Query.{Output, output_cmp, limited, as_count}
use Rattle.sqlite_trees.specs.Tree.{IsAscending}
use Rattle.sqlite_trees.specs.View.{IsShaped}
use Rattle.sqlite_trees.specs.declared.store.Shape.TheVariants as shape
use Rattle.sqlite_sql.specs.declared.ops.CompareOp.TheVariants.{Eq, Ge, Lt}
use Rattle.sqlite_sql.proofs.QueryLemmas.{output_cmp_total}
use Rattle.sqlite_value.specs.Order.{value_cmp}
use Rattle.sqlite_value.specs.Keys.{plain, first_key}
use Rattle.sqlite_value.proofs.OrderLemmas.{value_cmp_total, value_cmp-Blob, then-Equal}
use Rattle.sqlite_keyed.specs.Lists.{insert_sorted, sort_by}
use Rattle.sqlite_keyed.proofs.ListLemmas.{all_weaker}
use Rattle.sqlite_keyed.proofs.SortLemmas.{sorted_is-sort_by}
use Rattle.sqlite_typed.proofs.TestLemmas.{at_ints, at_blobs, last_term, then_term}
use Rattle.sqlite_rules.specs.Lists.{Has}
use Rattle.sqlite_rules.proofs.ListLemmas.{all_has, all_from, has_filtered, has_kept, some_has, some_from}
use Rattle.store_kv.specs.declared.keeper.KeptRow.{KeptRow}
use Rattle.store_kv.specs.Tables.{Tables, place_cmp, bytes_cmp, row_at, is_between, rows_between, entry_of, IsListing}
use Rattle.store_kv.specs.Tables as keeper
use Rattle.store_sqlite.proofs.Order.{bytes_exact}
use Rattle.store_sqlite.specs.Kept.{tables_in, map_in, kept_schema, scan_text, IsKept, IsReady}
use Rattle.store_sqlite.specs.inner.Steps.{kept_row, IsGood, IsLimit}
use Rattle.store_sqlite.proofs.Blank.{map_kept, sound_kept}
use Rattle.store_sqlite.proofs.Get.{unshown, scan_unknown}
use Rattle.sqlite.specs.State.{State, Shown}
use Rattle.sqlite.proofs.Callers.{reads_as}
use Rattle.store_sqlite.proofs.Remove.{good_rows}
use Rattle.store_sqlite.proofs.Texts.{in_range, at_key, scan_is, scan_plain, scan_unlisted}
use Rattle.store_sqlite.proofs.Rows.{IsAt, IsKeptRow}
use Rattle.store_sqlite.proofs.Select.{Answered, read, query, shown_of, passes_all, has_permuted, has_mapped, mapped_has, key_params, passes_at, at_passes}
use Rattle.store_sqlite.proofs.Put.{same_int}
use Rattle.store_sqlite.proofs.Change.{AreRows, here_is, none_is}

-- sorting keeps strict order where nothing ties
module _ {X : Type 0} (cmp : X → X → Ordering) (total : IsTotalOrder cmp) where
  all_insert : (P : X → Type 0) (new : X) (xs : List X) → P new → AllByRecursion P xs → AllByRecursion P (insert_sorted cmp new xs)
  all_insert P new [] h all = (h, tt)
  all_insert P new (x ∷ xs) h all = elim (is_gt (cmp new x)) as (λ b. AllByRecursion P (cond b (x ∷ insert_sorted cmp new xs) (new ∷ x ∷ xs))) [ true ↦ (all.0, all_insert P new xs h all.1) | false ↦ (h, all) ]

  all_sort : (P : X → Type 0) (xs : List X) → AllByRecursion P xs → AllByRecursion P (sort_by cmp xs)
  all_sort P [] all = tt
  all_sort P (x ∷ xs) all = all_insert P x _ all.0 (all_sort P xs all.1)

  rises_insert : (new : X) (xs : List X) → AllByRecursion (λ y. is_eq (cmp new y) ≡ false) xs → IsAscending (λ a b. cmp a b ≡ Less) xs → IsAscending (λ a b. cmp a b ≡ Less) (insert_sorted cmp new xs)
  rises_insert new [] apart up = (tt, tt)
  rises_insert new (x ∷ xs) apart up = go (cmp new x) refl (rises_insert new xs apart.1 up.1)
    where
      go : (o : Ordering) → cmp new x ≡ o → IsAscending (λ a b. cmp a b ≡ Less) (insert_sorted cmp new xs) → IsAscending (λ a b. cmp a b ≡ Less) (cond (is_gt o) (x ∷ insert_sorted cmp new xs) (new ∷ x ∷ xs))
      go Less e more = ((e, all_weaker _ (λ y. cmp new y ≡ Less) (λ y. total.trans new x y e) xs up.0), up)
      go Equal e more = absurd (true≢false (sym (ap is_eq e) ∙ apart.0))
      go Greater e more = (all_insert _ new xs (total.antisymm x new ∙ ap ordering_reverse e) up.0, more)

  rises_sort : (xs : List X) → IsAscending (λ a b. is_eq (cmp a b) ≡ false) xs → IsAscending (λ a b. cmp a b ≡ Less) (sort_by cmp xs)
  rises_sort [] apart = tt
  rises_sort (x ∷ xs) apart = rises_insert x _ (all_sort _ xs apart.0) (rises_sort xs apart.1)

ge_le : (a b : List ℕ) → is_ge (bytes_cmp a b) ≡ is_le (bytes_cmp b a)
ge_le a b = ap is_ge (nat_list_cmp_total.antisymm a b) ∙ flips _

to_has : {X : Type 0} (xs : List X) (x : X) → keeper.Has xs x → Has xs x
to_has [] x h = h
to_has (y ∷ xs) x (inl same) = inl same
to_has (y ∷ xs) x (inr later) = inr (to_has xs x later)

from_has : {X : Type 0} (xs : List X) (x : X) → Has xs x → keeper.Has xs x
from_has [] x h = h
from_has (y ∷ xs) x (inl same) = inl same
from_has (y ∷ xs) x (inr later) = inr (from_has xs x later)

pub map_take : {X Y : Type 0} (f : X → Y) (n : ℕ) (xs : List X) → map f (take n xs) ≡ take n (map f xs)
map_take f zero xs = refl
map_take f (suc n) [] = refl
map_take f (suc n) (x ∷ xs) = ap (λ l. f x ∷ l) (map_take f n xs)

map_limited : {X Y : Type 0} (f : X → Y) (limit : Option ℕ) (xs : List X) → map f (limited limit xs) ≡ limited limit (map f xs)
map_limited f None xs = refl
map_limited f (Some n) xs = map_take f n xs

-- a limit that SQL kept to, or was not given, is kept once more
pub cut : {X : Type 0} (limit : ℕ) (n : ℤ) (xs : List X) → IsLimit limit n → take limit (limited (as_count (Int n)) xs) ≡ take limit xs
cut limit n xs (inl is) = ap (λ (z : ℤ). take limit (limited (as_count (Int z)) xs)) is ∙ take-take limit limit xs (omega arith)
cut limit n xs (inr is) = ap (λ (z : ℤ). take limit (limited (as_count (Int z)) xs)) is

abbrev pub scan_params : ℕ → List ℕ → List ℕ → ℤ → Row
scan_params t from below n = Int (pos t) ∷ Blob from ∷ Blob below ∷ Int n ∷ []

pub good : (s : State) → IsKept s → IsGood s
good s it = record { schema = it.schema; sound = it.sound; shaped = it.shaped }

-- a listing of an interval is its rows, which store_kv says
abbrev pub IsOnlyListing : Type 0
IsOnlyListing = (m : Tables) (t : ℕ) (from below : List ℕ) (rows : List KeptRow) → IsListing m t from below rows → rows ≡ rows_between m t from below

module _ (db : Trees) (rows : AreRows db) (shaped : IsShaped shape.Table (db 0)) (t : ℕ) (from below : List ℕ) (n : ℤ) where
  abbrev params : Row
  params = scan_params t from below n

  abbrev project : List Term
  project = col 1 2 ∷ col 1 3 ∷ []

  abbrev order : List (Term × Rattle.sqlite_value.specs.declared.keys.Key.Key)
  order = (col 1 2, first_key plain) ∷ []

  abbrev shown : Row → Output
  shown = shown_of in_range project order (col 0 3) db params

  abbrev cmp : Output → Output → Ordering
  cmp = output_cmp (query in_range project order (col 0 3) db params)

  abbrev out : List ℕ → List ℕ → Output
  out k v = (Blob k ∷ [], Blob k ∷ Blob v ∷ [])

  abbrev kept_of : Output → KeptRow
  kept_of o = record { key = bytes (column o.1 0); row = bytes (column o.1 1) }

  compares : (k v j w : List ℕ) → cmp (out k v) (out j w) ≡ bytes_cmp k j
  unfolding first_key
  compares k v j w = then-Equal (value_cmp (Blob k) (Blob j)) ∙ value_cmp-Blob k j

  passes_range : (x : Row) (it : IsKeptRow x) → passes_all in_range params x ≡ true → IsAt t it.k x × IsTrue (is_between from below it.k)
  passes_range x it h =
      let p = and_parts _ _ (rw (it.t_is, it.k_is) at h) in
      let q = and_parts _ _ p.1 in
      let r = and_parts _ _ q.1 in
      let one : int_eq it.t (pos t) ≡ true = sym (at_ints false Eq it.t (pos t)) ∙ p.0 in
      let low : is_le (bytes_cmp from it.k) ≡ true = sym (at_blobs false Ge it.k from) ∙ q.0 in
      let high : is_lt (bytes_cmp it.k below) ≡ true = sym (at_blobs false Lt it.k below) ∙ r.0 in
      (record { t_is = it.t_is ∙ ap Int (same_int it.t (pos t) one); k_is = it.k_is }, and_from _ _ (ge_le it.k from ∙ low) high)

  range_passes : (x : Row) (k : List ℕ) → IsAt t k x → IsTrue (is_between from below k) → passes_all in_range params x ≡ true
  range_passes x k at inside = let p = and_parts _ _ inside in rw (at.t_is, at.k_is) (then_term (at_ints false Eq (pos t) (pos t) ∙ int_eq_equiv.refl (pos t)) (then_term (at_blobs false Ge k from ∙ sym (ge_le k from) ∙ p.0) (last_term (at_blobs false Lt k below ∙ p.1))))

  shown_is : (x : Row) (it : IsKeptRow x) → shown x ≡ out it.k it.v
  shown_is x it = ap₂ (λ a b. (a ∷ [], a ∷ b ∷ [])) it.k_is it.v_is

  -- rows with different rowids that pass have different keys
  no_ties : (xs : List Row) → IsTable xs → ((x : Row) → Has xs x → Has (db 0) x) → IsAscending (λ a b. is_eq (cmp a b) ≡ false) (map shown (filter (passes_all in_range params) xs))
  no_ties [] up inside = tt
  no_ties (x ∷ xs) up inside = go (passes_all in_range params x) refl (no_ties xs up.1 (λ y h. inside y (inr h)))
    where
      apart : (y : Row) → Has xs y → passes_all in_range params x ≡ true → passes_all in_range params y ≡ true → (is_eq (cmp (shown x) (shown y)) ≡ true) ⊎ (is_eq (cmp (shown x) (shown y)) ≡ false) → is_eq (cmp (shown x) (shown y)) ≡ false
      apart y h p q (inr differ) = differ
      apart y h p q (inl tie) =
          let ix = rows.kept x (inside x (inl refl)) in
          let iy = rows.kept y (inside y (inr h)) in
          let same : bytes_cmp ix.k iy.k ≡ Equal = sym (compares ix.k ix.v iy.k iy.v) ∙ ap₂ cmp (sym (shown_is x ix)) (sym (shown_is y iy)) ∙ tied _ tie in
          let ax = (passes_range x ix p).0 in
          let ay = subst (λ k. IsAt t k y) (sym (bytes_exact ix.k iy.k same)) (passes_range y iy q).0 in
          let one = rows.one t ix.k x y (inside x (inl refl)) (inside y (inr h)) ax ay in
          let lower : value_cmp (rowid x) (rowid y) ≡ Less = all_has (λ r. value_cmp (rowid x) (rowid r) ≡ Less) xs y up.0 h in
          let self : value_cmp (rowid x) (rowid x) ≡ Less = ap (λ (z : Row). value_cmp (rowid x) (rowid z)) one ∙ lower in
          absurd (true≢false (ap is_eq (sym (tied_itself value_cmp_total (rowid x)) ∙ self)))

      go : (b : Bool) → passes_all in_range params x ≡ b → IsAscending (λ a c. is_eq (cmp a c) ≡ false) (map shown (filter (passes_all in_range params) xs))
          → IsAscending (λ a c. is_eq (cmp a c) ≡ false) (map shown (cond b (x ∷ filter (passes_all in_range params) xs) (filter (passes_all in_range params) xs)))
      go true p rest = (
        all_from (λ o. is_eq (cmp (shown x) o) ≡ false) (map shown (filter (passes_all in_range params) xs)) (λ o h.
            let y = has_mapped shown (filter (passes_all in_range params) xs) o h in
            let f = has_filtered (passes_all in_range params) xs y.0 y.1 in
            subst (λ z. is_eq (cmp (shown x) z) ≡ false) (sym y.2) (apart y.0 f.0 p f.1 (cases_Bool _))),
        rest,
      )
      go false p rest = rest

  below_rise : (k v : List ℕ) (os : List Output) → ((o : Output) → Has os o → (j : List ℕ) × (w : List ℕ) × (o ≡ out j w)) → AllByRecursion (λ p. cmp (out k v) p ≡ Less) os → T (below_all place_cmp (t, k) (map (entry_of t) (map kept_of os)))
  below_rise k v [] each up = tt
  below_rise k v (o ∷ os) each up =
      let it = each o (inl refl) in
      let less : bytes_cmp k it.0 ≡ Less = sym (compares k v it.0 it.1) ∙ ap (cmp (out k v)) (sym it.2) ∙ up.0 in
      let place : place_cmp (t, k) (t, (kept_of o).key) ≡ Less = ap (λ (z : Output). place_cmp (t, k) (t, (kept_of z).key)) it.2 ∙ ap₂ ordering_then (tied_itself nat_cmp_total t) less in
      both_T _ _ (subst (λ r. T (is_lt r)) (sym place) tt) (below_rise k v os (λ p h. each p (inr h)) up.1)

  entries_rise : (os : List Output) → ((o : Output) → Has os o → (j : List ℕ) × (w : List ℕ) × (o ≡ out j w)) → IsAscending (λ a b. cmp a b ≡ Less) os → T (is_sorted place_cmp (map (entry_of t) (map kept_of os)))
  entries_rise [] each up = tt
  entries_rise (o ∷ os) each up =
      let it = each o (inl refl) in
      both_T _ _ (subst (λ (z : Output). T (below_all place_cmp (t, (kept_of z).key) (map (entry_of t) (map kept_of os)))) (sym it.2)
      (below_rise it.0 it.1 os (λ p h. each p (inr h)) (subst (λ (z : Output). AllByRecursion (λ p. cmp z p ≡ Less) os) it.2 up.0))) (entries_rise os (λ p h. each p (inr h)) up.1)

  -- the rows of the answer, in the words of a keeper
  pub scanned : IsOnlyListing → (found : List Row) → Answered in_range project order (col 0 3) db params found → map kept_row found ≡ limited (as_count (Int n)) (rows_between (tables_in db) t from below)
  scanned listed found a = ap (map kept_row) a.shown ∙ map_limited kept_row (as_count (Int n)) (map (λ (o : Output). o.1) a.ordered) ∙ ap (limited (as_count (Int n))) (map_map kept_row (λ (o : Output). o.1) a.ordered ∙ listed (tables_in db) t from below (map kept_of a.ordered) listing)
    where
      source : (o : Output) → Has a.ordered o → (x : Row) × Has (db 0) x × (passes_all in_range params x ≡ true) × (o ≡ shown x)
      source o h =
          let x = has_mapped shown _ o (has_permuted _ a.ordered o a.same h) in
          let f = has_filtered (passes_all in_range params) (db 0) x.0 x.1 in
          (x.0, f.0, f.1, x.2)

      form : (o : Output) → Has a.ordered o → (j : List ℕ) × (w : List ℕ) × (o ≡ out j w)
      form o h = let x = source o h in let it = rows.kept x.0 x.1 in (it.k, it.v, x.3 ∙ shown_is x.0 it)

      strict : IsAscending (λ p q. cmp p q ≡ Less) a.ordered
      strict =
          let apart = no_ties (db 0) shaped.0 (λ x h. h) in
          subst (IsAscending (λ p q. cmp p q ≡ Less)) (sym (sorted_is-sort_by cmp (output_cmp_total (query in_range project order (col 0 3) db params)) _ a.ordered apart a.same a.sorted)) (rises_sort cmp (output_cmp_total (query in_range project order (col 0 3) db params)) _ apart)

      listing : IsListing (tables_in db) t from below (map kept_of a.ordered)
      listing = record {
        rises = entries_rise a.ordered form strict;
        sound = λ r h.
            let o = has_mapped kept_of a.ordered r (to_has _ r h) in
            let x = source o.0 o.1 in
            let it = rows.kept x.0 x.1 in
            let p = passes_range x.0 it x.2 in
            let r_is : r ≡ kept_of (out it.k it.v) = o.2 ∙ ap kept_of (x.3 ∙ shown_is x.0 it) in (
              ap (λ (z : KeptRow). is_between from below z.key) r_is ∙ p.1,
              ap (λ (z : KeptRow). row_at (tables_in db) t z.key) r_is ∙ here_is db rows t it.k x.0 x.1 p.0 ∙ ap (λ z. Some (bytes z)) it.v_is ∙ sym (ap (λ (z : KeptRow). Some z.row) r_is),
            );
        complete = λ key row inside is. elim (cases_Bool (list_any (passes_all at_key (key_params t key)) (db 0))) [
          | inl some ↦
              let x = some_has (passes_all at_key (key_params t key)) (db 0) some in
              let at = passes_at t key [] x.0 (rows.kept x.0 x.1) x.2 in
              let found = sym is ∙ here_is db rows t key x.0 x.1 at in
              let value : row ≡ bytes (column x.0 3) = cc in
              let there = has_permuted a.ordered _ (shown x.0) (IsPermutation-sym _ a.ordered a.same) (mapped_has shown _ x.0 (has_kept (passes_all in_range params) (db 0) x.0 x.1 (range_passes x.0 key at inside))) in
              let r_is : kept_of (shown x.0) ≡ record { key = key; row = row } = λ i. record { key = bytes (at.k_is i); row = sym value i } in
              from_has _ _ (subst (Has (map kept_of a.ordered)) r_is (mapped_has kept_of a.ordered (shown x.0) there))
          | inr none ↦ absurd (let nothing = sym is ∙ none_is db rows t key (λ x h at. true≢false (sym (some_from (passes_all at_key (key_params t key)) (db 0) x h (at_passes t key [] x at)) ∙ none)) in cc)
        ];
      }

pub scanned_as : IsOnlyListing → (s new : State) (it : IsKept s) (t : ℕ) (from below : List ℕ) (n : ℤ) (found : List Row) → Shown scan_text (scan_params t from below n) s new found
    → map kept_row found ≡ limited (as_count (Int n)) (rows_between (tables_in s.now.trees) t from below)
scanned_as listed s new it t from below n found h =
    scanned s.now.trees (good_rows s (good s it)) it.shaped t from below n listed found
    (read in_range (col 1 2 ∷ col 1 3 ∷ []) ((col 1 2, first_key plain) ∷ []) (col 0 3) s.now.trees (scan_params t from below n) (codes "k" ∷ codes "r" ∷ []) s.now found refl
    (reads_as scan_text (scan_params t from below n) s new kept_schema it.schema _ scan_is scan_plain scan_unlisted found h))

pub scanned_ready : IsOnlyListing → (s new : State) (it : IsReady s) (t : ℕ) (from below : List ℕ) (n : ℤ) (found : List Row) → Shown scan_text (scan_params t from below n) s new found
    → map kept_row found ≡ limited (as_count (Int n)) (rows_between (map_in s.now.trees) t from below)
scanned_ready listed s new (inl it) t from below n found h = scanned_as listed s new it t from below n found h ∙ ap (λ m. limited (as_count (Int n)) (rows_between m t from below)) (sym (map_kept s.now.trees (sound_kept s it)))
scanned_ready listed s new (inr it) t from below n found h = absurd (unshown s new scan_text _ found scan_unknown it.schema h)
