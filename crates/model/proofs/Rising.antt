-- The records of an object are in the order of their ids.
use Rattle.std.proofs.Common.{◌≡◌, Bool, true, false, cond, List, [], ◌∷◌, map, filter, refl, ap, ◌∙◌, T}
use Rattle.std.specs.declared.cmp.Ordering.TheVariants.{Less}
use Rattle.std.specs.Ordering.{is_lt, nat_cmp}
use Rattle.std.specs.Cmp.Lexicographic.{slice_cmp}
use Rattle.std.specs.FinMap.Entries.{below_all}
use Rattle.std.specs.List.{AllByRecursion}
use Rattle.std.specs.List.Sorted.{IsStrictlySortedBy}
use Rattle.base_lemmas.proofs.Bools.{T-and_first as first, T-and_second as second}
use Rattle.base_lemmas.proofs.Orders.{less_from_T as is_less}
use Rattle.base_lemmas.proofs.Lists.{each-filter as all_kept}
use Rattle.model.specs.declared.record.Record.{Record}
use Rattle.model.specs.Ordered.{before, by_id, in_order, put_in}
use Rattle.model.specs.Paths.{Asked}
use Rattle.model.specs.SoundPeople.{ids_rise}
use Rattle.model.specs.SoundRecords.{record_id}

below_each : (r : Record) (rs : List Record) → T (below_all (slice_cmp nat_cmp) r.id (map (λ x. (record_id x, x)) rs)) → AllByRecursion (λ s. by_id r s ≡ Less) rs
below_each r [] h = tt
below_each r (s ∷ rs) h =
    let more = below_all (slice_cmp nat_cmp) r.id (map (λ x. (record_id x, x)) rs) in
    (is_less (by_id r s) (first (is_lt (by_id r s)) more h), below_each r rs (second (is_lt (by_id r s)) more h))

pub they_rise : (rs : List Record) → T (ids_rise record_id rs) → IsStrictlySortedBy by_id rs
unfolding IsStrictlySortedBy
they_rise [] h = tt
they_rise (r ∷ rs) h =
    let below = below_all (slice_cmp nat_cmp) r.id (map (λ x. (record_id x, x)) rs) in
    (below_each r rs (first below (ids_rise record_id rs) h), they_rise rs (second below (ids_rise record_id rs) h))

pub kept_rise : (p : Record → Bool) (rs : List Record) → IsStrictlySortedBy by_id rs → IsStrictlySortedBy by_id (filter p rs)
unfolding IsStrictlySortedBy
kept_rise p [] h = tt
kept_rise p (r ∷ rs) h = by (p r) (kept_rise p rs h.1)
  where
    by : (b : Bool) → IsStrictlySortedBy by_id (filter p rs) → IsStrictlySortedBy by_id (cond b (r ∷ filter p rs) (filter p rs))
    by true rest = (all_kept (λ s. by_id r s ≡ Less) p rs h.0, rest)
    by false rest = rest

-- what is in the order of ids is as it is in the order of no keys
pub already : (a : Asked) (rs : List Record) → IsStrictlySortedBy by_id rs → in_order (before a []) rs ≡ rs
unfolding in_order IsStrictlySortedBy
already a [] h = refl
already a (r ∷ rs) h = ap (put_in (before a []) r) (already a rs h.1) ∙ in_front rs h.0
  where
    in_front : (rs : List Record) → AllByRecursion (λ s. by_id r s ≡ Less) rs → put_in (before a []) r rs ≡ r ∷ rs
    in_front [] h = refl
    in_front (s ∷ rs) h = ap (λ o. cond (is_lt o) (r ∷ s ∷ rs) (s ∷ put_in (before a []) r rs)) h.0
