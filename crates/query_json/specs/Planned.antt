-- The rows of a choice, by the parents that are given for each record.
use Rattle.std.specs.Prelude.{ℕ, Bool, List, [], ◌∷◌, Option}
use Rattle.model.specs.Paths.{Asked}
use Rattle.model.specs.declared.record.Record.{Record}
use Rattle.query_plan.specs.Checks.{takes}
use Rattle.query_plan.specs.Plans.{by_keys}
use Rattle.query_plan.specs.declared.plan.Choice.{Choice}
use Rattle.query_plan.specs.declared.plan.SortKey.{SortKey}
use Rattle.query_exec.specs.Relatives.{by_parents}
use Rattle.query_exec.specs.Written.{rows_kept, rows_sorted}
use Rattle.query_exec.specs.declared.window.Window.{Window}

-- the records of the parents of a record, as who asks may read them
abbrev pub Parents : Type 0
Parents = Asked → Record → List (Option Record)

abbrev pub window_of : Choice → Window
window_of c = record { skip = c.skip; most = c.most }

-- the rows which are taken of the records that a user may read, in the order of the keys
abbrev pub rows_by : Parents → List SortKey → Window → (Asked → Record → Bool) → (object : ℕ) → Asked → List Record
rows_by parents [] w keep n a = rows_kept w keep n a
rows_by parents (k ∷ ks) w keep n a = rows_sorted w (λ a. by_keys (k ∷ ks) (parents a)) keep n a

abbrev pub choice_rows : Parents → Choice → (object : ℕ) → Asked → List Record
choice_rows parents c n a = rows_by parents c.order (window_of c) (by_parents parents (takes c.check)) n a
