-- The order of rows by their ranks.
use Rattle.std.specs.Cmp.{IsTotalOrder, on_total, then_total}
use Rattle.std.specs.Cmp.Lexicographic.{nat_list_cmp_total, slice_cmp}
use Rattle.std.specs.List.{IsDistinct}
use Rattle.std.specs.Ordering.{eq_by_cmp, nat_cmp, ordering_then}
use Rattle.std.specs.Prelude.{◌≡◌, List, [], ◌∷◌, ◌++◌, map}
use Rattle.std.specs.declared.cmp.Ordering.{Ordering}
use Rattle.model.specs.declared.record.Record.{Record}
use Rattle.model.specs.Ordered.{by_id, in_order}
use Rattle.query_exec.specs.declared.ranked.Ranked.{Ranked}

-- two records by their ranks, and then by their ids
abbrev pub by_rank : {R : Type 0} → (R → R → Ordering) → (Record → R) → Record → Record → Ordering
by_rank cmp rank r s = ordering_then (cmp (rank r) (rank s)) (by_id r s)

-- the same of rows that have their ranks
abbrev pub ranked_cmp : {R X : Type 0} → (R → R → Ordering) → Ranked R X → Ranked R X → Ordering
ranked_cmp cmp a b = ordering_then (cmp a.rank b.rank) (slice_cmp nat_cmp a.id b.id)

pub ranked_total : {R X : Type 0} {cmp : R → R → Ordering} → IsTotalOrder cmp → IsTotalOrder (ranked_cmp {X = X} cmp)
ranked_total total = then_total (on_total (λ a. a.rank) total) (on_total (λ a. a.id) nat_list_cmp_total)

-- rows of which no two tie were put in order
abbrev pub SortsRanked : {R X : Type 0} → (R → R → Ordering) → (old new : List (Ranked R X)) → Type 0
SortsRanked cmp old new = IsDistinct (eq_by_cmp (ranked_cmp cmp)) old → new ≡ in_order (ranked_cmp cmp) old

-- a row with the rank of its record, where what it carries is of this record
pub record Ranking {R X : Type 0} (Carries : X → Record → Type 0) (rank : Record → R) : Type 0 where
  pub row : Ranked R X
  pub its : Record
  pub carries : Carries row.kept its
  pub ranked : row.rank ≡ rank its
  pub named : row.id ≡ its.id

-- rows with their ranks were put behind the others, and these are their records
pub record GathersRows {R X : Type 0} (Carries : X → Record → Type 0) (rank : Record → R) (old new : List (Ranked R X)) (records : List Record) : Type 0 where
  pub rows : List (Ranking Carries rank)
  pub behind : new ≡ old ++ map (λ g. g.row) rows
  pub are : map (λ g. g.its) rows ≡ records

-- each of these is of the record in the same place
abbrev pub EachOf : {X : Type 0} → (X → Record → Type 0) → List X → List Record → Type 0
EachOf P [] [] = Unit {0}
EachOf P [] (r ∷ rs) = ⊥
EachOf P (x ∷ xs) [] = ⊥
EachOf P (x ∷ xs) (r ∷ rs) = P x r × EachOf P xs rs
