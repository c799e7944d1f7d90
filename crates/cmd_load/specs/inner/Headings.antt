-- How a text with a heading is loaded.
use Rattle.std.specs.Prelude.{◌≡◌, Result, Ok, Err}
use Rattle.std.specs.Str.{chars}
use Rattle.cmd_load_plan.specs.Columns.{plan_of}
use Rattle.cmd_load_plan.specs.declared.plan.LoadPlan.{LoadPlan}
use Rattle.model.specs.declared.refusal.Refusal.{Refusal}
use Rattle.model.specs.declared.refusal.Refusal.TheVariants.{HeadingRefused}
use Rattle.std.specs.Prelude.{ℕ, List}
use Rattle.cmd_load.specs.Inputs.{Cells}
use Rattle.cmd_load.specs.Targets.{LoadObject}

-- the plan, or the cell that is refused
abbrev pub refused_cell : Result LoadPlan (List ℕ) → Result LoadPlan Refusal
refused_cell (Ok p) = Ok p
refused_cell (Err cell) = Err (HeadingRefused (chars cell))

abbrev pub IsPlannedBy : LoadObject → (heading : Cells) → Result LoadPlan Refusal → Type 0
IsPlannedBy x heading planned = planned ≡ refused_cell (plan_of x.0 x.1 heading)
