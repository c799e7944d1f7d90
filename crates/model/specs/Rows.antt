-- The rows of a query.
-- Source: Salesforce, "SOQL and SOSL Reference", "SELECT": WHERE, ORDER BY, LIMIT, OFFSET and subqueries by relationships.
use Rattle.std.specs.Prelude.{ℕ, List, [], map, filter, take, drop, Option, Some, None}
use Rattle.std.specs.Option.{unwrap_or}
use Rattle.base_value.specs.declared.value.Value.{Value}
use Rattle.soql.specs.declared.query.Item.{Item}
use Rattle.soql.specs.declared.query.Item.TheVariants as item
use Rattle.soql.specs.declared.query.Path.{Path}
use Rattle.soql.specs.declared.query.Query.{Query}
use Rattle.soql.specs.declared.query.Tail.{Tail}
use Rattle.model.specs.declared.record.Record.{Record}
use Rattle.model.specs.Cases.{in_case}
use Rattle.model.specs.Conditions.{satisfies}
use Rattle.model.specs.Levels.{readable}
use Rattle.model.specs.Objects.{object_named, object_number}
use Rattle.model.specs.Ordered.{before, in_order}
use Rattle.model.specs.Paths.{Asked, path_value}
use Rattle.model.specs.Relationships.{child_named, refers_to}

-- ---- which records, and in which order

-- at most so many, if there is a limit
abbrev pub limited : {X : Type 0} → Option ℕ → List X → List X
limited None xs = xs
limited (Some n) xs = take n xs

-- of these records those on which the condition holds, in order, without the first few, and at most as many as the limit
abbrev pub chosen : Asked → Tail → (offset : ℕ) → List Record → List Record
chosen a tail offset rs = limited tail.limit (drop offset (in_order (before a tail.order) (filter (satisfies a tail.condition) rs)))

-- the records that the user may read, of the object with this number
abbrev pub readable_of : Asked → ℕ → List Record
readable_of a n = readable a.tenant a.user n

-- the records that a query finds
unfoldable pub found : Asked → Query → List Record
found a q = in_case (object_named a.tenant q.tail.from) [] (λ o. chosen a q.tail (unwrap_or q.offset 0) (readable_of a o.number))

-- the children that a subquery finds: records that refer to this one
unfoldable pub found_children : Asked → Record → Tail → List Record
found_children a r tail =
    in_case (child_named a.tenant (object_number r.id) tail.from) [] (λ f.
    chosen a tail 0 (filter (refers_to r.id f) (readable_of a f.object)))

-- ---- rows

-- a record's id, and its cells
pub record Row (X : Type 0) : Type 0 where
  pub id : List ℕ
  pub cells : List X

-- a record with the values of some paths
abbrev pub values_row : Asked → List Path → Record → Row Value
values_row a paths r = record { id = r.id; cells = map (λ p. path_value a r p.names) paths }

-- the value of a path, or the rows of a child subquery
pub data Cell : Type 0 where
  shown : Value → Cell
  listed : List (Row Value) → Cell

-- a cell of a record's row
abbrev pub cell : Asked → Record → Item → Cell
cell a r (item.Path p) = shown (path_value a r p.names)
cell a r (item.Child paths tail) = listed (map (values_row a paths) (found_children a r tail))

-- the rows of a query
unfoldable pub rows : Asked → Query → List (Row Cell)
rows a q = map (λ r. record { id = r.id; cells = map (cell a r) q.select }) (found a q)
