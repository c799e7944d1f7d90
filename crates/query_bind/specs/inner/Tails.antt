-- The condition and the keys of a tail, whose paths are bound.
use Rattle.std.specs.Prelude.{◌≡◌, List, ◌++◌, Option, Some, ℤ}
use Rattle.std.specs.List.{AllByRecursion}
use Rattle.base_value.specs.Printing.{day_of_moment}
use Rattle.soql.specs.declared.query.Cond.{Cond}
use Rattle.soql.specs.declared.query.OrderKey.{OrderKey}
use Rattle.soql.specs.declared.query.Tail.{Tail}
use Rattle.model.specs.declared.record.Record.{Record}
use Rattle.model.specs.Conditions.{holds, satisfies}
use Rattle.model.specs.Ordered.{before}
use Rattle.model.specs.Tests as model
use Rattle.model.specs.Tests.{tests_of}
use Rattle.store_abstraction.specs.declared.layout.Layout.{Layout}
use Rattle.query_plan.specs.declared.paths.branches.Branch.{Branch}
use Rattle.query_plan.specs.declared.check.Check.{Check}
use Rattle.query_bind.specs.declared.choosing.BoundTail.{BoundTail}
use Rattle.query_check.specs.declared.columns.Column.{Column}
use Rattle.query_plan.specs.Checks.{check_holds, takes}
use Rattle.query_plan.specs.Plans.{by_keys}
use Rattle.query_bind.specs.inner.Spots.{IsFree, IsOf, Serve, Setting, far_of}
use Rattle.query_check.specs.Ways.{path_column_in}

-- ---- conditions

-- whatever branches follow, on this day the check holds where the condition does, if nothing refuses its tests
pub record BindsCondition (ls : List Layout) (l : Layout) (day : ℤ) (branches : List Branch) (cond : Cond) (check : Check) : Type 0 where
  pub rows :
      (s : Setting) (r : Record) → day ≡ day_of_moment s.asked.now → AllByRecursion (IsFree s ls l) (tests_of cond) → IsOf s l r
      → (more : List Branch) → check_holds (far_of s r (branches ++ more)) r check ≡ holds s.asked r cond

-- the same of a condition, if there is one
pub record BindsWhere (ls : List Layout) (l : Layout) (day : ℤ) (branches : List Branch) (cond : Option Cond) (check : Option Check) : Type 0 where
  pub rows :
      (s : Setting) (r : Record) → day ≡ day_of_moment s.asked.now → AllByRecursion (IsFree s ls l) (model.tests cond) → IsOf s l r
      → (more : List Branch) → takes check (far_of s r (branches ++ more)) r ≡ satisfies s.asked cond r

-- ---- tails

-- the key's path leads to a field, by layouts that serve it
pub record KeyServes (s : Setting) (ls : List Layout) (l : Layout) (key : OrderKey) : Type 0 where
  pub column : Column
  pub serve : Serve s ls key.path.names
  pub there : path_column_in ls l key.path.names ≡ Some column

-- nothing refuses the tests of the tail, nor its keys
pub record TailServes (s : Setting) (ls : List Layout) (l : Layout) (tail : Tail) : Type 0 where
  pub tests : AllByRecursion (IsFree s ls l) (model.tests tail.condition)
  pub keys : AllByRecursion (KeyServes s ls l) tail.order

-- whatever branches follow, of a tail that nothing refuses: on this day the check takes the rows that it takes, and the keys order
-- two of them as its own do
pub record BindsTail (ls : List Layout) (l : Layout) (day : ℤ) (tail : Tail) (branches : List Branch) (b : BoundTail) : Type 0 where
  pub rows :
      (s : Setting) (r : Record) → day ≡ day_of_moment s.asked.now → TailServes s ls l tail → IsOf s l r
      → (more : List Branch) → takes b.check (far_of s r (branches ++ more)) r ≡ satisfies s.asked tail.condition r
  pub order :
      (s : Setting) (r t : Record) → TailServes s ls l tail → IsOf s l r → IsOf s l t
      → (more : List Branch) → by_keys b.order (λ x. far_of s x (branches ++ more)) r t ≡ before s.asked tail.order r t
