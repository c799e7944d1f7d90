use Rattle.std.proofs.Common.{◌≡◌, ◌∙◌, Option, sym}
use Rattle.std.proofs.lemmas.Result.{IfOk-weaker}
use Rattle.std.specs.Str.{chars}
use Rattle.schema_rules.specs.Objects.{numbered_in, object_of_layout}
use Rattle.cmd_load_plan.specs.declared.plan.LoadColumn.{LoadColumn}
use Rattle.cmd_load_plan.specs.Columns.{own_column}
use Rattle.cmd_load_plan.specs.inner.Headings.{FindsColumn, FindsParent}
use Rattle.cmd_load_plan.proofs.Planning.{by_name, by_parent}
use Rattle.cmd_load_plan.proofs.columns.column_of.Goals as goal

pub returns-in-None : goal.returns-in-None
returns-in-None c =
    let l = c.args.layout.now in
    let cell = c.args.cell.now in
    IfOk-weaker c.own_column.result
    (λ (x : Option LoadColumn). x ≡ own_column (object_of_layout l) (chars cell))
    (FindsColumn c.args.layouts.now l cell)
    (λ x is q t are. is ∙ sym (by_name t (numbered_in l) cell c.in-None.ensures))
    c.own_column.ensures

pub returns-in-Some : goal.returns-in-Some
returns-in-Some c =
    let l = c.args.layout.now in
    let cell = c.args.cell.now in
    let relationship = c.in-Some.relationship.now in
    let field = c.in-Some.field.now in
    IfOk-weaker c.parent_column.result
    (FindsParent c.args.layouts.now l (chars relationship) (chars field))
    (FindsColumn c.args.layouts.now l cell)
    (λ x is q t are. is q t are ∙ sym (by_parent t (numbered_in l) cell relationship field c.in-Some.ensures))
    c.parent_column.ensures
