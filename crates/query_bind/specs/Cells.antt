-- Queries whose rows are lines of cells.
use Rattle.std.specs.Prelude.{◌≡◌, ℕ, List, filter_map, map, Option, Some, None}
use Rattle.std.specs.Option.{unwrap_or}
use Rattle.soql.specs.declared.query.Item.{Item}
use Rattle.soql.specs.declared.query.Item.TheVariants as item
use Rattle.soql.specs.declared.query.Path.{Path}
use Rattle.soql.specs.declared.query.Query.{Query}
use Rattle.model.specs.declared.record.Record.{Record}
use Rattle.model.specs.Membership.{Has}
use Rattle.model.specs.Objects.{records_of}
use Rattle.model.specs.Paths.{Asked, path_value}
use Rattle.query_plan.specs.Checks.{spot_value}
use Rattle.query_plan.specs.Plans.{Chooses, parents_by}
use Rattle.query_bind.specs.declared.cells.CellPlan.{CellPlan}

-- the path that this is, if it is one
abbrev pub path_in : Item → Option Path
path_in (item.Path p) = Some p
path_in (item.Child paths tail) = None

-- the paths among these
abbrev pub paths_in : List Item → List Path
paths_in items = filter_map path_in items

-- of the records of the object with this number the plan takes those that the query takes, in its order, and its cells are the values of
-- the paths that are selected
pub record MeansCells (a : Asked) (n : ℕ) (q : Query) (p : CellPlan) : Type 0 where
  pub chooses : Chooses a n q.tail (unwrap_or q.offset 0) p.choice
  pub cells :
      (r : Record) → Has (records_of a.tenant n) r
      → map (spot_value (parents_by a p.choice r) r) p.cells ≡ map (λ x. path_value a r x.names) (paths_in q.select)
