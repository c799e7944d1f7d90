-- Page after page of the rows of manual shares: no row of the pages so far is sought, and the rows to come are those after the last.
use Rattle.std.proofs.Common.{◌≡◌, ℕ, zero, suc, ◌-◌, ◌<◌, Bool, true, false, List, [], ◌∷◌, ◌++◌, length, map, take, Option, Some, None, refl, sym, ap, subst, ◌∙◌, inl, inr, lit<, Bor, IsTrue}
use Rattle.std.specs.Prelude.{◌⊎◌, Result, Ok, Err, Vec, option_copied, slice_get}
use Rattle.std.specs.List.{AllByRecursion, list_any}
use Rattle.std.specs.Option.{option_map}
use Rattle.std.proofs.lemmas.List.{length-map}
use Rattle.std.proofs.lemmas.Option.{slice_get-map}
use Rattle.std.proofs.lemmas.Bool.{or_parts as or_none, or_cases as or_either}
use Rattle.store_kv.specs.declared.keeper.KeptRow.{KeptRow}
use Rattle.store_kv.specs.Prefixes.{raised}
use Rattle.store_kv.specs.Tables.{Has, Tables, rows_between}
use Rattle.store_kv.specs.Walks.{next_above}
use Rattle.store_rows.specs.declared.fail.StoreFail.{StoreFail}
use Rattle.store_rows.specs.declared.fail.StoreFail.TheVariants.{Keeper, Memory, Damaged}
use Rattle.store_rows.specs.declared.share.ShareRow.{ShareRow}
use Rattle.store_rows.specs.Forms.{FitsForm, kept_as, key_bytes}
use Rattle.store_rows.specs.Keys as key
use Rattle.store_rows.specs.Keys.{FitsKey, Key, spell}
use Rattle.base_value.specs.Id.{is_id}
use Rattle.base_value.specs.Principals.{principal_id}
use Rattle.base_value.specs.declared.sharing.Principal.{Principal}
use Rattle.base_value.specs.declared.sharing.Principal.TheVariants as to
use Rattle.store_codec.specs.Composed.{FitsPrincipal}
use Rattle.store_rows.specs.Listings.{rows_to, start_of}
use Rattle.store_rows.specs.Reads.{ListsAs}
use Rattle.store_rows.specs.Rows.{share_form}
use Rattle.record_read.proofs.Loading.{err_is}
use Rattle.people_removal.specs.inner.Scanning.{IsShare, Parts, Scans, kept_after, parts_bytes, shares_front}

-- ---- laws of walks, as `store_kv` says

abbrev pub PageStep : Type 0
PageStep = (m : Tables) (table : ℕ) (next below : List ℕ) (page : ℕ) (rows : List KeptRow) (last : KeptRow) → rows ≡ take page (rows_between m table next below) → slice_get rows (length rows - 1) ≡ Some last
    → rows ++ rows_between m table (next_above last.key) below ≡ rows_between m table next below

abbrev pub PageEnd : Type 0
PageEnd = (m : Tables) (table : ℕ) (next below : List ℕ) (page : ℕ) (rows : List KeptRow) → 0 < page → rows ≡ take page (rows_between m table next below) → slice_get rows (length rows - 1) ≡ None
    → rows_between m table next below ≡ []

-- ---- lists

has_either : {X : Type 0} (xs ys : List X) (x : X) → Has (xs ++ ys) x → Has xs x ⊎ Has ys x
has_either [] ys x h = inr h
has_either (z ∷ xs) ys x (inl e) = inl (inl e)
has_either {X = X} (z ∷ xs) ys x (inr h) = by (has_either xs ys x h)
  where
    by : Has xs x ⊎ Has ys x → Has (z ∷ xs) x ⊎ Has ys x
    by (inl g) = inl (inr g)
    by (inr g) = inr g

has_later : {X : Type 0} (xs ys : List X) (x : X) → Has ys x → Has (xs ++ ys) x
has_later [] ys x h = h
has_later (z ∷ xs) ys x h = inr (has_later xs ys x h)

pub has_first : {X : Type 0} (n : ℕ) (xs : List X) (x : X) → Has (take n xs) x → Has xs x
has_first zero xs x h = absurd h
has_first (suc n) [] x h = absurd h
has_first (suc n) (y ∷ xs) x (inl e) = inl e
has_first (suc n) (y ∷ xs) x (inr h) = inr (has_first n xs x h)

map_has : {X Y : Type 0} (f : X → Y) (xs : List X) (x : X) → Has xs x → Has (map f xs) (f x)
map_has f [] x h = absurd h
map_has f (z ∷ xs) x (inl e) = inl (ap f e)
map_has f (z ∷ xs) x (inr h) = inr (map_has f xs x h)

has_map : {X Y : Type 0} (f : X → Y) (xs : List X) (y : Y) → Has (map f xs) y → (x : X) × Has xs x × (y ≡ f x)
has_map f [] y h = absurd h
has_map f (z ∷ xs) y (inl e) = (z, inl refl, e)
has_map f (z ∷ xs) y (inr h) = let (x, has, is) = has_map f xs y h in (x, inr has, is)

each_has : {X : Type 0} (P : X → Type 0) (xs : List X) (x : X) → AllByRecursion P xs → Has xs x → P x
each_has P [] x all h = absurd h
each_has P (z ∷ xs) x all (inl e) = subst P (sym e) all.0
each_has P (z ∷ xs) x all (inr h) = each_has P xs x all.1 h

last_map : {X Y : Type 0} (f : X → Y) (xs : List X) → slice_get (map f xs) (length (map f xs) - 1) ≡ option_map f (slice_get xs (length xs - 1))
last_map f xs = ap (λ (n : ℕ). slice_get (map f xs) (n - 1)) (length-map xs f) ∙ slice_get-map f xs (length xs - 1)

any_has : {X : Type 0} (p : X → Bool) (xs : List X) → list_any p xs ≡ true → (x : X) × Has xs x × (p x ≡ true)
any_has p [] e = absurd cc
any_has {X = X} p (z ∷ xs) e = by (or_either (p z) (list_any p xs) e) (any_has p xs)
  where
    by : (p z ≡ true) ⊎ (list_any p xs ≡ true) → (list_any p xs ≡ true → (x : X) × Has xs x × (p x ≡ true)) → (x : X) × Has (z ∷ xs) x × (p x ≡ true)
    by (inl so) rest = (z, inl refl, so)
    by (inr more) rest = let (x, h, so) = rest more in (x, inr h, so)

none_has : {X : Type 0} (p : X → Bool) (xs : List X) → list_any p xs ≡ false → (x : X) → Has xs x → p x ≡ false
none_has p [] e x h = absurd h
none_has {X = X} p (z ∷ xs) e x (inl is) = subst (λ (y : X). p y ≡ false) (sym is) (or_none (p z) (list_any p xs) e).0
none_has p (z ∷ xs) e x (inr h) = none_has p xs (or_none (p z) (list_any p xs) e).1 x h

-- ---- rows by what is kept

-- two keys are two places, as `store_rows` says
abbrev pub AreApart : Type 0
AreApart = (a b : Key) → FitsKey a → FitsKey b → spell a ≡ spell b → a ≡ b

abbrev to_of : Principal → Key → Principal
to_of other (key.Share org id to) = to
to_of other k = other

-- rows that are kept alike are with the same principal
pub same_to : AreApart → (u v : ShareRow) → FitsForm share_form u → FitsForm share_form v → kept_as share_form u ≡ kept_as share_form v → u.to ≡ v.to
same_to apart u v fu fv e = ap (to_of u.to) (apart (key.Share u.org u.id u.to) (key.Share v.org v.id v.to) fu.0 fv.0 (ap (λ (k : KeptRow). (12, k.key)) e))

-- ---- how far the pages came

module _ (kept : List KeptRow) (sought : Principal → Bool) where
  -- these rows are still to come: no other is sought
  pub record GoesOn (rest : List KeptRow) : Type 0 where
    pub within : (one : KeptRow) → Has rest one → Has kept one
    pub none : (row : ShareRow) → FitsForm share_form row → Has kept (kept_as share_form row)
        → (sought row.to ≡ false) ⊎ Has rest (kept_as share_form row)

  -- all rows are to come, or those that are read are the first of them
  abbrev IsPage : List KeptRow → List ShareRow → Type 0
  IsPage rest rows = (map (kept_as share_form) rows ≡ take 200 rest) × AllByRecursion (FitsForm share_form) rows

  module _ (rest : List KeptRow) (on : GoesOn rest) where
    -- one of the page is sought
    pub page_found : (rows : List ShareRow) → IsPage rest rows → list_any (λ (row : ShareRow). sought row.to) rows ≡ true → Scans kept sought (Ok true)
    page_found rows page any =
        let (row, has, so) = any_has (λ (row : ShareRow). sought row.to) rows any in
        let there = subst (λ (xs : List KeptRow). Has xs (kept_as share_form row)) page.0 (map_has (kept_as share_form) rows row has) in
        (row, each_has (FitsForm share_form) rows row page.1 has, on.within (kept_as share_form row) (has_first 200 rest (kept_as share_form row) there), so)

    -- no row is to come
    pub page_last : rest ≡ [] → Scans kept sought (Ok false)
    page_last none row fits has = by (on.none row fits has)
      where
        by : (sought row.to ≡ false) ⊎ Has rest (kept_as share_form row) → sought row.to ≡ false
        by (inl passed) = passed
        by (inr more) = absurd (subst (λ (xs : List KeptRow). Has xs (kept_as share_form row)) none more)

    -- none of the page is sought
    pub page_passed : (rows : List ShareRow) → IsPage rest rows → (more : List KeptRow) → map (kept_as share_form) rows ++ more ≡ rest → AreApart → list_any (λ (row : ShareRow). sought row.to) rows ≡ false → GoesOn more
    page_passed rows page more joined apart none_of = record {
      within = λ kept_one h. on.within kept_one (subst (λ (xs : List KeptRow). Has xs kept_one) joined (has_later (map (kept_as share_form) rows) more kept_one h));
      none = λ row fits has. by row fits (on.none row fits has);
    }
      where
        either : (row : ShareRow) → FitsForm share_form row → Has (map (kept_as share_form) rows) (kept_as share_form row) ⊎ Has more (kept_as share_form row)
            → (sought row.to ≡ false) ⊎ Has more (kept_as share_form row)
        either row fits (inr h) = inr h
        either row fits (inl h) =
            let (u, has, is) = has_map (kept_as share_form) rows (kept_as share_form row) h in
            let same = same_to apart row u fits (each_has (FitsForm share_form) rows u page.1 has) is in
            inl (ap sought same ∙ none_has (λ (row : ShareRow). sought row.to) rows none_of u has)

        by : (row : ShareRow) → FitsForm share_form row → (sought row.to ≡ false) ⊎ Has rest (kept_as share_form row) → (sought row.to ≡ false) ⊎ Has more (kept_as share_form row)
        by row fits (inl passed) = inl passed
        by row fits (inr h) = either row fits (has_either (map (kept_as share_form) rows) more (kept_as share_form row) (subst (λ (xs : List KeptRow). Has xs (kept_as share_form row)) (sym joined) h))

    -- the rows of what is kept, one for each
    rows_for : (xs : List KeptRow) → ((x : KeptRow) → Has xs x → IsShare x) → (rows : List ShareRow) × AllByRecursion (FitsForm share_form) rows × (map (kept_as share_form) rows ≡ xs)
    rows_for [] each = ([], tt, refl)
    rows_for (x ∷ xs) each =
        let (row, fits, is) = each x (inl refl) in
        let (rows, all, same) = rows_for xs (λ y h. each y (inr h)) in
        (row ∷ rows, (fits, all), λ i. is i ∷ same i)

    -- the page wasn't read
    pub page_failed : {A : Type 0} (r : Result (Vec ShareRow A) StoreFail) (e : StoreFail) → r ≡ Err e → ListsAs share_form (take 200 rest) r → Scans kept sought (Err e)
    page_failed (Ok rows) e is none = absurd cc
    page_failed (Err Damaged) Damaged is none = λ each. let (rows, fits, same) = rows_for (take 200 rest) (λ x h. each x (on.within x (has_first 200 rest x h))) in none rows fits same
    page_failed (Err Keeper) Damaged is none = absurd (cc (err_is Keeper Damaged is))
    page_failed (Err Memory) Damaged is none = absurd (cc (err_is Memory Damaged is))
    page_failed (Err x) Keeper is none = tt
    page_failed (Err x) Memory is none = tt

-- ---- a page, as it was read

key_read : {X : Type 0} (f : X → List ℕ) (read : Option (Bor X)) (last : Option X) → option_copied read ≡ last → option_map (λ key. f key.now) read ≡ option_map f last
key_read f None last e = ap (option_map f) e
key_read f (Some key) last e = ap (option_map f) e

-- over tables that are the same now
pub page_read : {A : Type 0} (org : ℕ) (m now : Tables) → now ≡ m → (read : Option (Bor Parts)) (last : Option Parts) → option_copied read ≡ last
    → (r : Result (Vec ShareRow A) StoreFail) → ListsAs share_form (take 200 (kept_after now org (option_map (λ key. parts_bytes key.now) read))) r → ListsAs share_form (take 200 (kept_after m org (option_map parts_bytes last))) r
page_read org m now same read last is r h =
    subst (λ (o : Option (List ℕ)). ListsAs share_form (take 200 (kept_after m org o)) r) (key_read parts_bytes read last is)
    (subst (λ (n : Tables). ListsAs share_form (take 200 (kept_after n org (option_map (λ key. parts_bytes key.now) read))) r) same h)

-- ---- the rows behind a page

module _ (m : Tables) (from : List ℕ) where
  pub rows_behind : PageStep → (above : Option (List ℕ)) (rows : List ShareRow) (row : ShareRow) → map (kept_as share_form) rows ≡ take 200 (rows_to m 12 from above)
      → slice_get rows (length rows - 1) ≡ Some row → map (kept_as share_form) rows ++ rows_to m 12 (next_above (key_bytes share_form row)) above ≡ rows_to m 12 from above
  rows_behind step None [] row e last = absurd cc
  rows_behind step None (u ∷ rows) row e last = absurd cc
  rows_behind step (Some above) rows row e last =
      step m 12 from above 200 (map (kept_as share_form) rows) (kept_as share_form row) e
      (last_map (kept_as share_form) rows ∙ ap (option_map (kept_as share_form)) last)

  pub none_behind : PageEnd → (above : Option (List ℕ)) (rows : List ShareRow) → map (kept_as share_form) rows ≡ take 200 (rows_to m 12 from above)
      → slice_get rows (length rows - 1) ≡ None → rows_to m 12 from above ≡ []
  none_behind end None rows e last = refl
  none_behind end (Some above) rows e last =
      end m 12 from above 200 (map (kept_as share_form) rows) (lit< tt) e
      (last_map (kept_as share_form) rows ∙ ap (option_map (kept_as share_form)) last)

-- ---- page after page

-- the last of these
abbrev pub last_of : List ShareRow → Option ShareRow
last_of rows = slice_get rows (length rows - 1)

module _ (step : PageStep) (end : PageEnd) (apart : AreApart) (m : Tables) (org : ℕ) (sought : Principal → Bool) (last : Option Parts) (rows : List ShareRow)
    (page : (map (kept_as share_form) rows ≡ take 200 (kept_after m org (option_map parts_bytes last))) × AllByRecursion (FitsForm share_form) rows) (on : GoesOn (kept_after m org None) sought (kept_after m org (option_map parts_bytes last))) where
  abbrev from : List ℕ
  from = start_of (shares_front org) (option_map parts_bytes last)

  -- this was the last
  pub all_passed : slice_get rows (length rows - 1) ≡ None → Scans (kept_after m org None) sought (Ok false)
  all_passed none = page_last (kept_after m org None) sought (kept_after m org (option_map parts_bytes last)) on (none_behind m from end (raised (shares_front org)) rows page.0 none)

  -- there may be more
  pub more_come : (row : ShareRow) → slice_get rows (length rows - 1) ≡ Some row → (key : Parts) → key ≡ share_form.keyed row
      → list_any (λ (row : ShareRow). sought row.to) rows ≡ false → GoesOn (kept_after m org None) sought (kept_after m org (Some (parts_bytes key)))
  more_come row at key is none_of =
      subst (λ (k : Parts). GoesOn (kept_after m org None) sought (kept_after m org (Some (parts_bytes k)))) (sym is)
      (page_passed (kept_after m org None) sought (kept_after m org (option_map parts_bytes last)) on rows page (rows_to m 12 (next_above (key_bytes share_form row)) (raised (shares_front org)))
      (rows_behind m from step (raised (shares_front org)) rows row page.0 at) apart none_of)

-- ---- the parts of a key

-- a principal whose id is one has a spelling
pub principal_fits : (p : Principal) → IsTrue (is_id (principal_id p)) → FitsPrincipal p
principal_fits (to.User i) h = h
principal_fits (to.Role i) h = h
principal_fits (to.Subordinates i) h = h
principal_fits (to.Group i) h = h
