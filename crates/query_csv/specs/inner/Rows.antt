-- The lines of a plan's rows.
use Rattle.std.specs.Prelude.{◌≡◌, ◌≢◌, ◌⊎◌, ℕ, List, [], ◌++◌, map, Option, Some, Result, Ok, Err}
use Rattle.std.specs.List.{flat_map}
use Rattle.store_kv.specs.Tables.{Tables}
use Rattle.store_rows.specs.declared.fail.StoreFail.{StoreFail}
use Rattle.store_rows.specs.declared.fail.StoreFail.TheVariants.{Damaged}
use Rattle.base_value.specs.Printing.{print_value}
use Rattle.model.specs.Paths.{Asked}
use Rattle.model.specs.declared.record.Record.{Record}
use Rattle.access_traits.specs.Rights.{Whose}
use Rattle.store_abstraction.specs.Layouts.{own_layouts}
use Rattle.store_abstraction.specs.Plan.{OrgPlan}
use Rattle.store_abstraction.specs.declared.layout.Layout.{Layout}
use Rattle.query_plan.specs.paths.Branches.{branch_records}
use Rattle.query_plan.specs.declared.paths.branches.Branch.{Branch}
use Rattle.query_plan.specs.Checks.{spot_value}
use Rattle.query_plan.specs.declared.check.Spot.{Spot}
use Rattle.query_bind.specs.declared.cells.CellPlan.{CellPlan}
use Rattle.query_exec.specs.Relatives.{by_parents}
use Rattle.query_exec.specs.Written.{InTenants}
use Rattle.query_json.specs.row.Shows.{or_null}
use Rattle.query_json.specs.Planned.{Parents, choice_rows}
use Rattle.query_csv.specs.Lines.{line}

-- the text of a value that can be printed, of a row's record and the records of its branches
abbrev pub cell_text : (far : List (Option Record)) → Record → Spot → List ℕ
cell_text far r s = print_value (or_null (spot_value far r s))

-- the line of such values
abbrev pub row_line : (cells : List Spot) → (far : List (Option Record)) → Record → List ℕ
row_line cells far r = line (map (cell_text far r) cells)

-- the records of these branches
abbrev pub parents_of : List Branch → Parents
parents_of bs a r = branch_records a r [] bs

-- the lines of a plan were appended for whoever asks so, in a tenant for which the organisation's rows stand and whose layout it is, and
-- such are never damaged
abbrev pub PutsLines : Layout → (who : OrgPlan → Asked → Type 0) → Parents → CellPlan → (old new : List ℕ) → Tables → Result (Unit {0}) StoreFail → Type 0
PutsLines l who parents p old new m (Ok x) =
    InTenants l who m (λ a. new ≡ old ++ flat_map (by_parents parents (row_line p.cells) a) (choice_rows parents p.choice l.object a))
PutsLines l who parents p old new m (Err e) = InTenants l who m (λ a. e ≢ Damaged)

-- a plan without branches asks for no layout and for no rights; with some the layouts are those of all objects
abbrev pub serves : List Layout → Layout → Whose → CellPlan → OrgPlan → Asked → Type 0
serves ls l whose p q a = (p.choice.branches ≡ []) ⊎ ((ls ≡ own_layouts l.org q (Some a.tenant)) × whose a.tenant a.user)
