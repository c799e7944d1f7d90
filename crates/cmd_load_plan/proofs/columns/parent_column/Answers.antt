use Rattle.std.proofs.Common.{◌≡◌, ◌∙◌, ap, List, Option}
use Rattle.std.proofs.lemmas.Result.{IfOk-weaker}
use Rattle.std.specs.Str.{chars}
use Rattle.store_abstraction.specs.declared.layout.FieldPlace.{FieldPlace}
use Rattle.cmd_load_plan.specs.declared.plan.LoadColumn.{LoadColumn}
use Rattle.cmd_load_plan.specs.inner.Headings.{FindsParent, column_at}
use Rattle.cmd_load_plan.proofs.Places.{column_is, no_parent, no_place}
use Rattle.cmd_load_plan.proofs.columns.parent_column.Goals as goal

pub returns-in_default : goal.returns-in_default
returns-in_default c q t are =
    no_parent q t c.args.layout.now (chars c.args.relationship.now) (chars c.args.field.now) are.layout (c.in_default.ensures.finds q t are.layout)

pub returns-in_default-unique_place : goal.returns-in_default-unique_place
returns-in_default-unique_place c q t are =
    let l = c.args.layout.now in
    no_place q t l (chars c.args.relationship.now) (chars c.args.field.now) are.layout c.in-Some.step (c.in-Some.ensures.finds q t are.layout)
    (c.in_default-unique_place.ensures l.org q t are.all are.sound)

pub returns : goal.returns
returns c =
    let l = c.args.layout.now in
    let relationship = chars c.args.relationship.now in
    let field = chars c.args.field.now in
    let step = c.in-Some.step in
    let place = c.in-Some-unique_place.place in
    IfOk-weaker c.column_at.result
    (λ (x : Option LoadColumn). x ≡ column_at c.as_slice.result.now step.position place)
    (FindsParent c.args.layouts.now l relationship field)
    (λ x is q t are.
    is ∙ ap (λ (fs : List FieldPlace). column_at fs step.position place) c.as_slice.ensures
    ∙ column_is q t l relationship field are.layout step (c.in-Some.ensures.finds q t are.layout) place
    (c.in-Some-unique_place.ensures l.org q t are.all are.sound))
    c.column_at.ensures
