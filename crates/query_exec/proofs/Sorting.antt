-- Records that are sorted by their ranks and then by their ids.
use Rattle.std.proofs.Common.{◌≡◌, ◌∙◌, ℕ, Bool, true, false, cond, List, [], ◌∷◌, ◌++◌, refl, sym, ap, subst, append_assoc, append-nil, map, take, is_eq}
use Rattle.std.specs.List.{AllByRecursion, IsDistinct}
use Rattle.std.specs.List.Sorted.{IsStrictlySortedBy}
use Rattle.std.specs.Cmp.Lexicographic.{slice_cmp}
use Rattle.std.specs.Ordering.{eq_by_cmp, is_lt, nat_cmp, ordering_then}
use Rattle.std.specs.declared.cmp.Ordering.{Ordering}
use Rattle.std.specs.declared.cmp.Ordering.TheVariants.{Less, Equal, Greater}
use Rattle.std.proofs.lemmas.List.{map-append, take-map}
use Rattle.model.specs.declared.record.Record.{Record}
use Rattle.model.specs.Ordered.{by_id, in_order, put_in}
use Rattle.query_exec.specs.declared.ranked.Ranked.{Ranked}
use Rattle.query_exec.specs.Ranks.{EachOf, GathersRows, Ranking, SortsRanked, by_rank, ranked_cmp}
use Rattle.query_exec.proofs.Paging.{Ascends}
use Rattle.model.proofs.Sorted.{NoTies, all_has, has_all}

-- ---- order through a function

module _ {X Y : Type 0} (f : X → Y) (big : Y → Y → Ordering) (small : X → X → Ordering) (same : (a b : X) → big (f a) (f b) ≡ small a b) where
  put_in_map : (x : X) (ys : List X) → put_in big (f x) (map f ys) ≡ map f (put_in small x ys)
  put_in_map x [] = refl
  put_in_map x (y ∷ ys) = ap (λ o. cond (is_lt o) (f x ∷ f y ∷ map f ys) (f y ∷ put_in big (f x) (map f ys))) (same x y) ∙ by (is_lt (small x y)) (put_in_map x ys)
    where
      by : (b : Bool) → put_in big (f x) (map f ys) ≡ map f (put_in small x ys) → cond b (f x ∷ f y ∷ map f ys) (f y ∷ put_in big (f x) (map f ys)) ≡ map f (cond b (x ∷ y ∷ ys) (y ∷ put_in small x ys))
      by true e = refl
      by false e = ap (λ l. f y ∷ l) e

  in_order_map : (xs : List X) → in_order big (map f xs) ≡ map f (in_order small xs)
  unfolding in_order
  in_order_map [] = refl
  in_order_map (x ∷ xs) = ap (put_in big (f x)) (in_order_map xs) ∙ put_in_map x (in_order small xs)

-- ---- rows with the ranks of their records

module _ {R X : Type 0} (cmp : R → R → Ordering) (P : X → Record → Type 0) (rank : Record → R) where
  abbrev Row : Type 0
  Row = Ranking P rank

  abbrev row_in : Row → Ranked R X
  row_in g = g.row

  abbrev its_in : Row → Record
  its_in g = g.its

  abbrev by_its : Row → Row → Ordering
  by_its g h = by_rank cmp rank g.its h.its

  same_order : (g h : Row) → ranked_cmp cmp g.row h.row ≡ by_its g h
  same_order g h =
      ap (λ (x : R). ordering_then (cmp x h.row.rank) (slice_cmp nat_cmp g.row.id h.row.id)) g.ranked
      ∙ ap (λ (x : R). ordering_then (cmp (rank g.its) x) (slice_cmp nat_cmp g.row.id h.row.id)) h.ranked
      ∙ ap (λ (i : List ℕ). ordering_then (cmp (rank g.its) (rank h.its)) (slice_cmp nat_cmp i h.row.id)) g.named
      ∙ ap (λ (i : List ℕ). ordering_then (cmp (rank g.its) (rank h.its)) (slice_cmp nat_cmp g.its.id i)) h.named

  -- what the rows carry is of their records
  abbrev Carries : Ranked R X → Record → Type 0
  Carries row r = P row.kept r

  all_carried : (gs : List Row) → EachOf Carries (map row_in gs) (map its_in gs)
  all_carried [] = tt
  all_carried (g ∷ gs) = (g.carries, all_carried gs)

  -- ---- no ties

  apart_then : (a : Ordering) (b : Ordering) → b ≡ Less → is_eq (ordering_then a b) ≡ false
  apart_then Less b e = refl
  apart_then Equal b e = ap is_eq e
  apart_then Greater b e = refl

  -- records whose ids rise don't tie
  pub ids_apart : (rs : List Record) → Ascends rs → NoTies (by_rank cmp rank) rs
  unfolding IsDistinct IsStrictlySortedBy
  ids_apart [] up = tt
  ids_apart (r ∷ rs) up = (
    has_all (λ (s : Record). eq_by_cmp (by_rank cmp rank) r s ≡ false) rs (λ s h. apart_then (cmp (rank r) (rank s)) (by_id r s) (all_has (λ (x : Record). by_id r x ≡ Less) rs up.0 s h)),
    ids_apart rs up.1,
  )

  apart_all : (g : Row) (gs : List Row) → AllByRecursion (λ s. eq_by_cmp (by_rank cmp rank) g.its s ≡ false) (map its_in gs) → AllByRecursion (λ y. eq_by_cmp (ranked_cmp cmp) g.row y ≡ false) (map row_in gs)
  apart_all g [] all = tt
  apart_all g (h ∷ gs) all = (ap is_eq (same_order g h) ∙ all.0, apart_all g gs all.1)

  -- rows of records that don't tie don't either
  rows_apart : (gs : List Row) → NoTies (by_rank cmp rank) (map its_in gs) → IsDistinct (eq_by_cmp (ranked_cmp cmp)) (map row_in gs)
  unfolding IsDistinct
  rows_apart [] apart = tt
  rows_apart (g ∷ gs) apart = (apart_all g gs apart.0, rows_apart gs apart.1)

  pub gathered_apart : (records : List Record) (old : List (Ranked R X)) → NoTies (by_rank cmp rank) records → GathersRows P rank [] old records → IsDistinct (eq_by_cmp (ranked_cmp cmp)) old
  gathered_apart records old apart g =
      subst (λ (xs : List (Ranked R X)). IsDistinct (eq_by_cmp (ranked_cmp cmp)) xs) (sym g.behind) (rows_apart g.rows (subst (NoTies (by_rank cmp rank)) (sym g.are) apart))

  -- the first of these rows in order are the rows of the first of their records in order
  pub gathers_first : (k : ℕ) (records : List Record) (old new : List (Ranked R X)) → GathersRows P rank [] old records → new ≡ take k (in_order (ranked_cmp cmp) old)
      → GathersRows P rank [] new (take k (in_order (by_rank cmp rank) records))
  gathers_first k records old new g is = record {
    rows = take k (in_order by_its g.rows);
    behind = is ∙ ap (λ (xs : List (Ranked R X)). take k (in_order (ranked_cmp cmp) xs)) g.behind ∙ ap (take k) (in_order_map row_in (ranked_cmp cmp) by_its same_order g.rows)
        ∙ take-map row_in k (in_order by_its g.rows);
    are = sym (take-map its_in k (in_order by_its g.rows))
        ∙ ap (take k) (sym (in_order_map its_in (by_rank cmp rank) by_its (λ a b. refl) g.rows) ∙ ap (in_order (by_rank cmp rank)) g.are);
  }

  -- the records of the rows that were sorted are in order
  pub sorted_records : (records : List Record) (old new : List (Ranked R X)) → NoTies (by_rank cmp rank) records → GathersRows P rank [] old records → SortsRanked cmp old new
      → EachOf Carries new (in_order (by_rank cmp rank) records)
  sorted_records records old new apart g sorts =
      let differ = gathered_apart records old apart g in
      let in_turn : new ≡ map row_in (in_order by_its g.rows) =
      sorts differ ∙ ap (in_order (ranked_cmp cmp)) g.behind ∙ in_order_map row_in (ranked_cmp cmp) by_its same_order g.rows in
      let its : map its_in (in_order by_its g.rows) ≡ in_order (by_rank cmp rank) records =
      sym (in_order_map its_in (by_rank cmp rank) by_its (λ a b. refl) g.rows) ∙ ap (in_order (by_rank cmp rank)) g.are in
      subst (λ (rs : List Record). EachOf Carries new rs) its
      (subst (λ (rows : List (Ranked R X)). EachOf Carries rows (map its_in (in_order by_its g.rows))) (sym in_turn) (all_carried (in_order by_its g.rows)))

-- ---- gathering

module _ {R X : Type 0} (P : X → Record → Type 0) (rank : Record → R) where
  pub gathers_nothing : (old : List (Ranked R X)) → GathersRows P rank old old []
  gathers_nothing old = record { rows = []; behind = sym (append-nil old); are = refl }

  pub gathers_row : (old new : List (Ranked R X)) (row : Ranked R X) (r : Record) → P row.kept r → row.rank ≡ rank r → row.id ≡ r.id → new ≡ old ++ row ∷ [] → GathersRows P rank old new (r ∷ [])
  gathers_row old new row r carries ranked named pushed =
      record { rows = record { row = row; its = r; carries = carries; ranked = ranked; named = named } ∷ []; behind = pushed; are = refl }

  pub gathers_more : (old mid new : List (Ranked R X)) (xs ys : List Record) → GathersRows P rank old mid xs → GathersRows P rank mid new ys → GathersRows P rank old new (xs ++ ys)
  gathers_more old mid new xs ys g h = record {
    rows = g.rows ++ h.rows;
    behind = h.behind ∙ ap (λ (rows : List (Ranked R X)). rows ++ map (λ (x : Ranking P rank). x.row) h.rows) g.behind
        ∙ append_assoc old (map (λ (x : Ranking P rank). x.row) g.rows) (map (λ (x : Ranking P rank). x.row) h.rows)
        ∙ ap (λ (rows : List (Ranked R X)). old ++ rows) (sym (map-append (λ (x : Ranking P rank). x.row) g.rows h.rows));
    are = map-append (λ (x : Ranking P rank). x.its) g.rows h.rows ∙ ap (λ (rs : List Record). rs ++ map (λ (x : Ranking P rank). x.its) h.rows) g.are
        ∙ ap (λ (rs : List Record). xs ++ rs) h.are;
  }

  -- of rows that were gathered, each carries what is of its record
  pub gathered_each : (new : List (Ranked R X)) (records : List Record) → GathersRows P rank [] new records → EachOf (λ (row : Ranked R X) r. P row.kept r) new records
  gathered_each new records g =
      subst (λ (rs : List Record). EachOf (λ (row : Ranked R X) r. P row.kept r) new rs) g.are
      (subst (λ (rows : List (Ranked R X)). EachOf (λ (row : Ranked R X) r. P row.kept r) rows (map (λ (x : Ranking P rank). x.its) g.rows)) (sym g.behind) (each g.rows))
    where
      each : (gs : List (Ranking P rank)) → EachOf (λ (row : Ranked R X) r. P row.kept r) (map (λ (x : Ranking P rank). x.row) gs) (map (λ (x : Ranking P rank). x.its) gs)
      each [] = tt
      each (g ∷ gs) = (g.carries, each gs)
