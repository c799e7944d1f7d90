use Rattle.std.proofs.Common.{◌≡◌, ◌∙◌, [], ◌∷◌, List, ℕ, None, ap, codes, length, refl, subst, sym}
use Rattle.std.specs.Str.{chars}
use Rattle.base_value.specs.declared.sharing.Principal.{Principal}
use Rattle.model.specs.declared.limit.Limit.TheVariants as limit
use Rattle.model.specs.People.{bad_name_if_any}
use Rattle.model.specs.Principals.{not_there}
use Rattle.model.specs.Rules.{first_of, first_refusal, over_limit}
use Rattle.people_edit.specs.inner.Changing.{group_row_rules}
use Rattle.store_edit.specs.Judging.{FailsRule}
use Rattle.store_edit.proofs.StepByStep.{none_next, passed_on, second_fails, third_fails}
use Rattle.people_edit.proofs.edits.groups.row_to_set.Goals as goal

pub returns-in_err-find_members-clause-passes : goal.returns-in_err-find_members-clause-passes
unfolding chars
returns-in_err-find_members-clause-passes g c told q t s =
    let b = c.args.change.now in
    let named = c.args.named.items in
    let e = c.in_err-find_members.field-0.0 in
    passed_on (first_refusal (group_row_rules t b named)) (λ x. Unit {0}) c.from_residual-in_err-find_members.result e c.from_residual-in_err-find_members.ensures.1
    (second_fails (bad_name_if_any b.name) (first_of (not_there t (codes "members")) named) (over_limit ((limit.MembersPerGroup, length named) ∷ []) ∷ []) e c.in_ok-check_name_if_any.ensures.passes.0
    (subst (λ (ps : List Principal). FailsRule (first_of (not_there t (codes "members")) ps) e) c.as_slice.ensures.value (c.in_err-find_members.ensures.passes told q t s)))

pub returns-in_err-check_count-clause-passes : goal.returns-in_err-check_count-clause-passes
unfolding chars
returns-in_err-check_count-clause-passes g c told q t s =
    let b = c.args.change.now in
    let named = c.args.named.items in
    let e = c.in_err-check_count.field-0.0 in
    let count = c.len.ensures ∙ sym c.as_slice.ensures.len ∙ ap length c.as_slice.ensures.value in
    passed_on (first_refusal (group_row_rules t b named)) (λ x. Unit {0}) c.from_residual-in_err-check_count.result e c.from_residual-in_err-check_count.ensures.1
    (third_fails (bad_name_if_any b.name) (first_of (not_there t (codes "members")) named) (over_limit ((limit.MembersPerGroup, length named) ∷ [])) [] e c.in_ok-check_name_if_any.ensures.passes.0
    (subst (λ (ps : List Principal). first_of (not_there t (codes "members")) ps ≡ None) c.as_slice.ensures.value (c.in_ok-find_members.ensures.passes told q t s).0)
    (subst (λ (n : ℕ). FailsRule (over_limit ((limit.MembersPerGroup, n) ∷ [])) e) count c.in_err-check_count.ensures.passes))

pub returns-clause-passes : goal.returns-clause-passes
unfolding chars
returns-clause-passes g c told q t s =
    let b = c.args.change.now in
    let named = c.args.named.items in
    let count = c.len.ensures ∙ sym c.as_slice.ensures.len ∙ ap length c.as_slice.ensures.value in
    let limited = over_limit ((limit.MembersPerGroup, length named) ∷ []) in (
      none_next (bad_name_if_any b.name) (first_of (not_there t (codes "members")) named ∷ limited ∷ []) c.in_ok-check_name_if_any.ensures.passes.0
          (none_next (first_of (not_there t (codes "members")) named) (limited ∷ [])
          (subst (λ (ps : List Principal). first_of (not_there t (codes "members")) ps ≡ None) c.as_slice.ensures.value (c.in_ok-find_members.ensures.passes told q t s).0)
          (none_next limited [] (subst (λ (n : ℕ). over_limit ((limit.MembersPerGroup, n) ∷ []) ≡ None) count c.in_ok-check_count.ensures.passes.0) refl)),
      tt,
    )
