-- The order of ranks is that of the keys of a plan.
use Rattle.std.proofs.Common.{◌≡◌, ◌∙◌, Bool, true, false, cond, List, [], ◌∷◌, map, refl, sym, ap}
use Rattle.std.specs.Cmp.Lexicographic.{slice_cmp}
use Rattle.std.specs.Ordering.{bool_cmp, ordering_then}
use Rattle.std.specs.declared.cmp.Ordering.{Ordering}
use Rattle.std.specs.declared.cmp.Ordering.TheVariants.{Less, Equal, Greater}
use Rattle.base_lemmas.proofs.Orders.{ordering_then-assoc as then_then, ordering_then-equal as then_end}
use Rattle.base_value.proofs.ValueOrder.{values_total}
use Rattle.base_value.specs.Values.{cmp}
use Rattle.base_value.specs.declared.value.Value.{Value}
use Rattle.base_value.specs.declared.value.Value.TheVariants as value
use Rattle.model.specs.Fields.{is_null}
use Rattle.model.specs.Ordered.{by_id, turned}
use Rattle.model.specs.declared.record.Record.{Record}
use Rattle.query_plan.specs.Checks.{spot_value}
use Rattle.query_plan.specs.Plans.{Far, by_keys, values_by}
use Rattle.query_plan.specs.declared.plan.SortKey.{SortKey}
use Rattle.query_plan.specs.order.Ranks.{part_cmp, part_in, part_of, rank_by, rank_cmp}
use Rattle.query_plan.specs.declared.order.ranks.Part.TheVariants.{First, Up, Down, Last}

-- ---- one key

-- what it is of two values that are null or not
abbrev parts_by : (nulls_last descending : Bool) → (a b : Value) → (no_a no_b : Bool) → Ordering
parts_by nulls_last descending a b no_a no_b =
    part_cmp (cond no_a (cond nulls_last Last First) (cond descending (Down a) (Up a))) (cond no_b (cond nulls_last Last First) (cond descending (Down b) (Up b)))

both_there : (nulls_last descending : Bool) (a b : Value) → parts_by nulls_last descending a b false false ≡ turned descending (cmp a b)
both_there nulls_last true a b = values_total.antisymm b a
both_there nulls_last false a b = then_end (cmp a b)

first_null : (nulls_last descending : Bool) (a b : Value) → parts_by nulls_last descending a b true false ≡ turned nulls_last Less
first_null true true a b = refl
first_null true false a b = refl
first_null false true a b = refl
first_null false false a b = refl

second_null : (nulls_last descending : Bool) (a b : Value) → parts_by nulls_last descending a b false true ≡ turned nulls_last Greater
second_null true true a b = refl
second_null true false a b = refl
second_null false true a b = refl
second_null false false a b = refl

none_there : (nulls_last descending : Bool) (a b : Value) → parts_by nulls_last descending a b true true ≡ Equal
none_there true descending a b = refl
none_there false descending a b = refl

both_null : (a b : Value) → is_null a ≡ true → is_null b ≡ true → cmp a b ≡ Equal
both_null value.Null value.Null h k = refl
both_null value.Null (value.Text t) h k = absurd cc
both_null value.Null (value.Num n) h k = absurd cc
both_null value.Null (value.Bool b) h k = absurd cc
both_null value.Null (value.Day n) h k = absurd cc
both_null value.Null (value.Moment n) h k = absurd cc
both_null value.Null (value.Ref id) h k = absurd cc
both_null (value.Text t) b h k = absurd cc
both_null (value.Num n) b h k = absurd cc
both_null (value.Bool t) b h k = absurd cc
both_null (value.Day n) b h k = absurd cc
both_null (value.Moment n) b h k = absurd cc
both_null (value.Ref id) b h k = absurd cc

key_by : (nulls_last descending : Bool) (a b : Value) (no_a no_b : Bool) → (no_a ≡ true → no_b ≡ true → cmp a b ≡ Equal)
    → parts_by nulls_last descending a b no_a no_b ≡ ordering_then (turned nulls_last (bool_cmp no_b no_a)) (turned descending (cmp a b))
key_by nulls_last descending a b true true same =
    none_there nulls_last descending a b ∙ by nulls_last descending ∙ ap (λ (o : Ordering). ordering_then (turned nulls_last Equal) (turned descending o)) (sym (same refl refl))
  where
    by : (b d : Bool) → Equal ≡ ordering_then (turned b Equal) (turned d Equal)
    by true true = refl
    by true false = refl
    by false true = refl
    by false false = refl
key_by nulls_last descending a b true false same = first_null nulls_last descending a b ∙ by nulls_last
  where
    by : (l : Bool) → turned l Less ≡ ordering_then (turned l Less) (turned descending (cmp a b))
    by true = refl
    by false = refl
key_by nulls_last descending a b false true same = second_null nulls_last descending a b ∙ by nulls_last
  where
    by : (l : Bool) → turned l Greater ≡ ordering_then (turned l Greater) (turned descending (cmp a b))
    by true = refl
    by false = refl
key_by nulls_last descending a b false false same = both_there nulls_last descending a b ∙ by nulls_last
  where
    by : (l : Bool) → turned descending (cmp a b) ≡ ordering_then (turned l Equal) (turned descending (cmp a b))
    by true = refl
    by false = refl

part_is_key : (k : SortKey) (a b : Value) → part_cmp (part_of k a) (part_of k b) ≡ values_by k a b
part_is_key k a b = key_by k.nulls_last k.descending a b (is_null a) (is_null b) (both_null a b)

-- ---- all keys

pub rank_is_order : (ks : List SortKey) (far : Far) (r s : Record)
    → ordering_then (rank_cmp (rank_by ks (far r) r) (rank_by ks (far s) s)) (by_id r s) ≡ by_keys ks far r s
rank_is_order [] far r s = refl
rank_is_order (k ∷ ks) far r s =
    let a = spot_value (far r) r k.spot in
    let b = spot_value (far s) s k.spot in
    then_then (part_cmp (part_of k a) (part_of k b)) (slice_cmp part_cmp (map (part_in (far r) r) ks) (map (part_in (far s) s) ks)) (by_id r s)
    ∙ ap (λ (o : Ordering). ordering_then o (ordering_then (rank_cmp (rank_by ks (far r) r) (rank_by ks (far s) s)) (by_id r s))) (part_is_key k a b)
    ∙ ap (ordering_then (values_by k a b)) (rank_is_order ks far r s)
