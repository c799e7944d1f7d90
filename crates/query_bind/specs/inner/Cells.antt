-- Where the values of paths are that are selected.
use Rattle.std.specs.Prelude.{◌≡◌, List, ◌++◌, Some}
use Rattle.soql.specs.declared.query.Path.{Path}
use Rattle.model.specs.declared.record.Record.{Record}
use Rattle.model.specs.Paths.{path_value}
use Rattle.store_abstraction.specs.declared.layout.Layout.{Layout}
use Rattle.query_plan.specs.declared.paths.branches.Branch.{Branch}
use Rattle.query_plan.specs.Checks.{spot_value}
use Rattle.query_plan.specs.declared.check.Spot.{Spot}
use Rattle.query_check.specs.declared.columns.Column.{Column}
use Rattle.query_check.specs.Ways.{path_column_in}
use Rattle.query_bind.specs.inner.Spots.{IsOf, Serve, Setting, far_of}

-- whatever branches follow, the value of a path that leads to a field is at the spot
pub record BindsCell (ls : List Layout) (l : Layout) (branches : List Branch) (path : Path) (spot : Spot) : Type 0 where
  pub value :
      (s : Setting) (c : Column) (r : Record) → Serve s ls path.names → path_column_in ls l path.names ≡ Some c → IsOf s l r
      → (more : List Branch) → spot_value (far_of s r (branches ++ more)) r spot ≡ path_value s.asked r path.names
