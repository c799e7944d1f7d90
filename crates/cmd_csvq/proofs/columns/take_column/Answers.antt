use Rattle.std.proofs.Common.{◌∙◌, Bool, Ok, Option, ap, subst, sym, ◌∷◌}
use Rattle.std.specs.Str.{chars}
use Rattle.model.specs.NewFields.{add_field}
use Rattle.model.specs.declared.refusal.Refusal.{Refusal}
use Rattle.cmd_sandbox.specs.Own.{past}
use Rattle.cmd_csvq.specs.Organisation.{new_column, with_columns}
use Rattle.cmd_sandbox.specs.Making.{StepsOwn}
use Rattle.cmd_csvq.proofs.Making.{first_name, new_field_made, no_column, second_name}
use Rattle.cmd_csvq.specs.inner.Making.{Takes}
use Rattle.cmd_csvq.proofs.Turns.{handed_on}
use Rattle.cmd_csvq.proofs.columns.take_column.Goals as goal

pub returns-in-Some : goal.returns-in-Some
returns-in-Some c now a made cells =
    let v = add_field a.tenant (new_column (chars c.args.cell.now)) in
    let h = subst (λ (r : Option Refusal). StepsOwn now c.make_column.new.draft a v (Ok r)) c.in-Some.is (c.in_ok-refused.ensures now a made) in
    no_column a c.args.cell.now cells c.args.named _ (sym (sym c.same_name.ensures ∙ c.if-not-same_name.true)) h

pub returns-in-None : goal.returns-in-None
returns-in-None c now a made =
    let v = add_field a.tenant (new_column (chars c.args.cell.now)) in
    let h = subst (λ (r : Option Refusal). StepsOwn now c.make_column.new.draft a v (Ok r)) c.in-None.is (c.in_ok-refused.ensures now a made) in
    (past a v, h.1, λ cells. new_field_made a c.args.cell.now cells c.args.named (sym (sym c.same_name.ensures ∙ c.if-not-same_name.true)) h.0)

pub returns-then-named : goal.returns-then-named
returns-then-named c now a made cells =
    ap (λ (n : Bool). with_columns n a (c.args.cell.now ∷ cells)) c.if-named.true
    ∙ second_name a c.args.cell.now cells (sym c.if-not-same_name.false ∙ c.same_name.ensures)

pub returns-else-named : goal.returns-else-named
returns-else-named c now a made = (
  a,
  made,
  λ cells. ap (λ (n : Bool). with_columns n a (c.args.cell.now ∷ cells)) c.if-named.false
      ∙ first_name a c.args.cell.now cells (sym c.if-not-same_name.false ∙ c.same_name.ensures),
)

pub returns-in_err-refused : goal.returns-in_err-refused
returns-in_err-refused c now a made =
    handed_on (Takes now c.make_column.new.draft c.args.named a c.args.cell.now) c.from_residual.result c.in_err-refused.field-0.0 c.from_residual.ensures (c.in_err-refused.ensures now a made)
