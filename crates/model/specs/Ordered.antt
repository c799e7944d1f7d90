-- The order of rows.
-- Source: Salesforce, "SOQL and SOSL Reference", "ORDER BY": ASC and NULLS FIRST are the defaults. That NULLS FIRST is the
-- default of DESC too, and that ids decide at last, is this product's own.
use Rattle.std.specs.Prelude.{Bool, if◌then◌else◌, List, [], ◌∷◌, bytes_eq}
use Rattle.std.specs.List.{IsDistinct}
use Rattle.std.specs.declared.cmp.Ordering.{Ordering}
use Rattle.std.specs.Ordering.{bool_cmp, nat_cmp, is_lt, ordering_reverse, ordering_then}
use Rattle.std.specs.Cmp.Lexicographic.{slice_cmp}
use Rattle.base_value.specs.Values.{cmp}
use Rattle.base_value.specs.declared.value.Value.{Value}
use Rattle.soql.specs.declared.query.OrderKey.{OrderKey}
use Rattle.model.specs.declared.record.Record.{Record}
use Rattle.model.specs.Fields.{is_null}
use Rattle.model.specs.Paths.{Asked, path_value}

-- an order, or the other way round
abbrev pub turned : Bool → Ordering → Ordering
turned back o = if back then ordering_reverse o else o

-- nulls before values
abbrev pub nulls_cmp : Value → Value → Ordering
nulls_cmp a b = bool_cmp (is_null b) (is_null a)

-- two values by one key: nulls by their place, whatever the direction, and values by its direction
abbrev pub key_cmp : OrderKey → Value → Value → Ordering
key_cmp k a b = ordering_then (turned k.nulls_last (nulls_cmp a b)) (turned k.descending (cmp a b))

-- two records by their ids
abbrev pub by_id : Record → Record → Ordering
by_id r s = slice_cmp nat_cmp r.id s.id

-- two records: the first key that decides, and else the ids
abbrev pub before : Asked → List OrderKey → Record → Record → Ordering
before a [] r s = by_id r s
before a (k ∷ ks) r s = ordering_then (key_cmp k (path_value a r k.path.names) (path_value a s k.path.names)) (before a ks r s)

-- ---- lists in order

-- a list in order with one more, which comes before the first that it is less than
abbrev pub put_in : {X : Type 0} → (X → X → Ordering) → X → List X → List X
put_in order x [] = x ∷ []
put_in order x (y ∷ ys) = if is_lt (order x y) then x ∷ y ∷ ys else y ∷ put_in order x ys

-- the elements in order
unfoldable pub in_order : {X : Type 0} → (X → X → Ordering) → List X → List X
in_order order [] = []
in_order order (x ∷ xs) = put_in order x (in_order order xs)

-- no two records have one id
abbrev pub IdsDiffer : List Record → Type 0
IdsDiffer rs = IsDistinct (λ r s. bytes_eq r.id s.id) rs
