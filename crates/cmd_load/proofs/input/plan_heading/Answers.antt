use Rattle.std.proofs.Common.{◌≡◌, List, Result, map, rules, subst, ℕ}
use Rattle.csv.specs.Records.{fields_of}
use Rattle.cmd_load_plan.specs.Columns.{plan_of}
use Rattle.cmd_load_plan.specs.Headings.{InEach, in_characters}
use Rattle.cmd_load_plan.specs.declared.plan.LoadPlan.{LoadPlan}
use Rattle.schema_rules.specs.Objects.{numbered_in}
use Rattle.store_abstraction.specs.declared.layout.Layout.{Layout}
use Rattle.cmd_load.proofs.Planning.{cell_refused, plan_found}
use Rattle.cmd_load.proofs.input.plan_heading.Goals as goal

pub returns-in-Ok : goal.returns-in-Ok
returns-in-Ok c x is =
    let target = c.args.target.now in
    let cells = map (λ s. s.now) c.as_slice-2.result.now in
    let read = subst (λ (ls : List Layout). InEach ls target.layout (λ t. c.in_ok-plan.field-0 ≡ in_characters (plan_of t (numbered_in target.layout) cells))) c.as_slice.ensures c.in_ok-plan.ensures in
    plan_found c.load_laws.ensures x target is (fields_of c.args.heading.now) cells (search rules) c.in-Ok.plan
    (subst (λ (r : Result LoadPlan (List ℕ)). InEach target.layouts target.layout (λ t. r ≡ in_characters (plan_of t (numbered_in target.layout) cells))) c.in-Ok.is read)

pub returns : goal.returns
returns c x is =
    let target = c.args.target.now in
    let cells = map (λ s. s.now) c.as_slice-2.result.now in
    let read = subst (λ (ls : List Layout). InEach ls target.layout (λ t. c.in_ok-plan.field-0 ≡ in_characters (plan_of t (numbered_in target.layout) cells))) c.as_slice.ensures c.in_ok-plan.ensures in
    cell_refused c.load_laws.ensures x target is (fields_of c.args.heading.now) cells (search rules) c.in-Err.cell
    (subst (λ (r : Result LoadPlan (List ℕ)). InEach target.layouts target.layout (λ t. r ≡ in_characters (plan_of t (numbered_in target.layout) cells))) c.in-Err.is read)
