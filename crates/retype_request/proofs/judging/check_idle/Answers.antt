use Rattle.std.proofs.Common.{◌∙◌, Bool, ap}
use Rattle.store_kv.specs.Draft.{tables_of}
use Rattle.model.specs.declared.refusal.Refusal.TheVariants.{JobBusy}
use Rattle.model.specs.Retyping.{under_way}
use Rattle.model.specs.Rules.{refuse_if}
use Rattle.store_abstraction.specs.Fails.{of_store}
use Rattle.store_abstraction.specs.Layouts.{own_change_row}
use Rattle.retype_request.proofs.Reading.{busy_read, unread_in}
use Rattle.store_edit.proofs.StepByStep.{passed_on}
use Rattle.retype_request.proofs.judging.check_idle.Goals as goal

pub returns-in_err-row-clause-passes : goal.returns-in_err-row-clause-passes
returns-in_err-row-clause-passes g c told q t s =
    let e = c.in_err-row.field-0.0 in
    let m = tables_of g.K.Keeper.state c.args.draft.now in
    passed_on (under_way t) (λ x. Unit {0}) c.from_residual.result (of_store e) c.from_residual.ensures.1
    (unread_in (under_way t) m q t c.args.org (own_change_row c.args.org) c.change_row.result e (c.change_row.ensures.finds told) c.in_err-row.was s)

pub returns-then-is_busy-clause-passes : goal.returns-then-is_busy-clause-passes
returns-then-is_busy-clause-passes g c told q t s =
    busy_read c.args.org q (tables_of g.K.Keeper.state c.args.draft.now) t c.change_row.result c.in_ok-row.row c.is_busy.result (c.change_row.ensures.finds told) c.in_ok-row.was s c.is_busy.ensures
    ∙ ap (λ (b : Bool). refuse_if b JobBusy) c.if-is_busy.true

pub returns-clause-passes : goal.returns-clause-passes
returns-clause-passes g c told q t s = (
  busy_read c.args.org q (tables_of g.K.Keeper.state c.args.draft.now) t c.change_row.result c.in_ok-row.row c.is_busy.result (c.change_row.ensures.finds told) c.in_ok-row.was s c.is_busy.ensures
      ∙ ap (λ (b : Bool). refuse_if b JobBusy) c.if-is_busy.false,
  tt,
)
