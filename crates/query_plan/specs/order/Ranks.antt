-- What rows are ordered by: for each key of a plan a part, and parts are compared one after the other.
use Rattle.std.specs.Prelude.{ℕ, if◌then◌else◌, List, map, Option}
use Rattle.std.specs.Cmp.{IsTotalOrder, back_total, nat_cmp_total, on_total, then_total}
use Rattle.std.specs.Cmp.Lexicographic.{lists_total, slice_cmp}
use Rattle.std.specs.Ordering.{nat_cmp, ordering_then}
use Rattle.std.specs.declared.cmp.Ordering.{Ordering}
use Rattle.base_value.proofs.ValueOrder.{values_total}
use Rattle.base_value.specs.Values.{cmp}
use Rattle.base_value.specs.declared.value.Value.{Value}
use Rattle.base_value.specs.declared.value.Value.TheVariants as value
use Rattle.model.specs.Fields.{is_null}
use Rattle.model.specs.declared.record.Record.{Record}
use Rattle.query_plan.specs.Checks.{spot_value}
use Rattle.query_plan.specs.declared.plan.SortKey.{SortKey}
use Rattle.query_plan.specs.declared.order.ranks.Part.{Part}
use Rattle.query_plan.specs.declared.order.ranks.Part.TheVariants.{First, Up, Down, Last}
use Rattle.query_plan.specs.declared.order.ranks.Rank.{Rank}

-- ---- parts

-- nulls that come first are before all values, and nulls that come last behind them
abbrev pub side_of : Part → ℕ
side_of First = 0
side_of (Up v) = 1
side_of (Down v) = 2
side_of Last = 3

-- the value that rises, or null
abbrev pub rising : Part → Value
rising (Up v) = v
rising _ = value.Null

-- the value that falls, or null
abbrev pub falling : Part → Value
falling (Down v) = v
falling _ = value.Null

-- values the other way round
abbrev pub back_cmp : Value → Value → Ordering
back_cmp a b = cmp b a

-- two parts by one key
abbrev pub part_cmp : Part → Part → Ordering
part_cmp a b = ordering_then (nat_cmp (side_of a) (side_of b)) (ordering_then (cmp (rising a) (rising b)) (back_cmp (falling a) (falling b)))

pub parts_total : IsTotalOrder part_cmp
parts_total = then_total (on_total side_of nat_cmp_total) (then_total (on_total rising values_total) (on_total falling (back_total values_total)))

-- ---- ranks

-- the first parts that differ decide
abbrev pub rank_cmp : Rank → Rank → Ordering
rank_cmp a b = slice_cmp part_cmp a.parts b.parts

pub rank_total : IsTotalOrder rank_cmp
rank_total = on_total (λ (r : Rank). r.parts) (lists_total parts_total)

-- what a key compares of a value
abbrev pub part_of : SortKey → Value → Part
part_of k v = if is_null v then (if k.nulls_last then Last else First) else (if k.descending then Down v else Up v)

-- what a key compares of a row, where these are the records of the branches
abbrev pub part_in : (far : List (Option Record)) → Record → SortKey → Part
part_in far r k = part_of k (spot_value far r k.spot)

-- what the keys compare of a row
abbrev pub rank_by : List SortKey → (far : List (Option Record)) → Record → Rank
rank_by ks far r = record { parts = map (part_in far r) ks }
