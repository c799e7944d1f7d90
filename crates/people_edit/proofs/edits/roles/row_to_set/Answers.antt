use Rattle.std.proofs.Common.{[], codes}
use Rattle.std.specs.Str.{chars}
use Rattle.model.specs.People.{bad_name_if_any}
use Rattle.model.specs.Rules.{first_refusal}
use Rattle.people_edit.specs.inner.Changing.{bad_parent_id, role_row_rules}
use Rattle.store_edit.proofs.StepByStep.{passed_on, second_fails}
use Rattle.people_edit.proofs.edits.roles.row_to_set.Goals as goal

pub returns-in_err-check_parent-clause-passes : goal.returns-in_err-check_parent-clause-passes
unfolding chars
returns-in_err-check_parent-clause-passes g c told q t s =
    let b = c.args.change.now in
    let e = c.in_err-check_parent.field-0.0 in
    passed_on (first_refusal (role_row_rules t c.args.row b c.args.named)) (λ x. Unit {0}) c.from_residual-in_err-check_parent.result e c.from_residual-in_err-check_parent.ensures.1
    (second_fails (bad_name_if_any b.name) (bad_parent_id t (codes "parent") c.args.row.id c.args.named) [] e c.in_ok-check_name_if_any.ensures.passes.0 (c.in_err-check_parent.ensures.passes told q t s))
