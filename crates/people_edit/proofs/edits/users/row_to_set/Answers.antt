use Rattle.std.proofs.Common.{[], ◌∷◌, codes}
use Rattle.std.specs.Str.{chars}
use Rattle.model.specs.People.{bad_name_if_any}
use Rattle.model.specs.Rules.{first_refusal}
use Rattle.people_edit.specs.inner.Changing.{none_administers, row_administers, user_row_rules, user_row_with}
use Rattle.people_edit.specs.inner.Judging.{lacks_role}
use Rattle.store_edit.proofs.StepByStep.{passed_on, second_fails}
use Rattle.people_edit.proofs.edits.users.row_to_set.Goals as goal

pub returns-in_err-find_role-clause-passes : goal.returns-in_err-find_role-clause-passes
unfolding chars
returns-in_err-find_role-clause-passes g c told q t s =
    let b = c.args.change.now in
    let named = c.args.named in
    let e = c.in_err-find_role.field-0.0 in
    passed_on (first_refusal (user_row_rules c.args.org t c.args.row b named)) (λ x. Unit {0}) c.from_residual-in_err-find_role.result e c.from_residual-in_err-find_role.ensures.1
    (second_fails (bad_name_if_any b.name) (lacks_role t (codes "role") named) (none_administers c.args.org t (row_administers c.args.row) (user_row_with b named c.args.row) ∷ []) e c.in_ok-check_name_if_any.ensures.passes.0 (c.in_err-find_role.ensures.passes told q t s))
