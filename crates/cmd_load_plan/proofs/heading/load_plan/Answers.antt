use Rattle.std.proofs.Common.{◌∙◌, Bor, List, ap, map, sym, ℕ}
use Rattle.schema_rules.specs.Objects.{numbered_in}
use Rattle.cmd_load_plan.proofs.Planning.{as_planned, plan_is, plan_refused}
use Rattle.cmd_load_plan.proofs.heading.load_plan.Goals as goal

pub returns-in-Err : goal.returns-in-Err
returns-in-Err c q t are =
    plan_refused t (numbered_in c.args.layout.now) (map (λ (x : Bor (List ℕ)). x.now) c.args.heading.now) c.in-Err.cell (sym c.in-Err.is ∙ c.in_ok-cell.ensures q t are)

pub returns-in_ok-plan-in-Ok : goal.returns-in_ok-plan-in-Ok
returns-in_ok-plan-in-Ok c q t are =
    ap as_planned c.in_ok-plan-in-Ok.ensures
    ∙ plan_is t (numbered_in c.args.layout.now) (map (λ (x : Bor (List ℕ)). x.now) c.args.heading.now) c.in-Ok.columns (sym c.in-Ok.is ∙ c.in_ok-cell.ensures q t are)
