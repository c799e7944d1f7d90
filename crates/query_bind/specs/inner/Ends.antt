-- Keys whose paths are bound.
use Rattle.std.specs.Prelude.{◌≡◌, List, [], ◌∷◌, ◌++◌, Some}
use Rattle.soql.specs.declared.query.OrderKey.{OrderKey}
use Rattle.model.specs.declared.record.Record.{Record}
use Rattle.model.specs.Ordered.{key_cmp}
use Rattle.model.specs.Paths.{path_value}
use Rattle.store_abstraction.specs.declared.layout.Layout.{Layout}
use Rattle.query_plan.specs.declared.paths.branches.Branch.{Branch}
use Rattle.query_check.specs.declared.columns.Column.{Column}
use Rattle.query_plan.specs.declared.plan.SortKey.{SortKey}
use Rattle.query_plan.specs.Checks.{spot_value}
use Rattle.query_plan.specs.Plans.{values_by}
use Rattle.query_bind.specs.inner.Spots.{IsOf, Serve, Setting, far_of}
use Rattle.query_check.specs.Ways.{path_column_in}

-- whatever branches follow, the key orders two records as the query's does, if that leads to a field
pub record BindsKey (ls : List Layout) (l : Layout) (branches : List Branch) (key : OrderKey) (k : SortKey) : Type 0 where
  pub order :
      (s : Setting) (c : Column) (r t : Record) → Serve s ls key.path.names → path_column_in ls l key.path.names ≡ Some c → IsOf s l r → IsOf s l t
      → (more : List Branch)
      → values_by k (spot_value (far_of s r (branches ++ more)) r k.spot) (spot_value (far_of s t (branches ++ more)) t k.spot)
      ≡ key_cmp key (path_value s.asked r key.path.names) (path_value s.asked t key.path.names)

-- each of these is bound by the one at its place
abbrev pub Each : {X Y : Type 0} → (X → Y → Type 0) → List X → List Y → Type 0
Each P [] [] = Unit {0}
Each P (x ∷ xs) (y ∷ ys) = P x y × Each P xs ys
Each P (x ∷ xs) [] = ⊥
Each P [] (y ∷ ys) = ⊥
