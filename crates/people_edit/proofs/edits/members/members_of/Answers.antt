use Rattle.std.proofs.Common.{◌≡◌, ◌∙◌, ◌+◌, ◌++◌, [], ◌∷◌, List, ℕ, ap, drop, map, subst, sym}
use Rattle.std.specs.List.{AllByRecursion}
use Rattle.std.proofs.lemmas.List.Elements.{All-from_recursion}
use Rattle.base_lemmas.proofs.Lists.{each-push as all_more, drop-cons_read as rest_is}
use Rattle.model.specs.Principals.{bad_id, kind_of, principal_of}
use Rattle.model.specs.Rules.{first_of}
use Rattle.store_codec.specs.Composed.{FitsPrincipal}
use Rattle.base_value.specs.declared.sharing.Principal.{Principal}
use Rattle.store_edit.proofs.StepByStep.{passed_on}
use Rattle.people_edit.proofs.Members.{all_made, kind_fits, none_left, one_more_made, this_fails, this_passes}
use Rattle.people_edit.proofs.edits.members.members_of.Goals as goal

pub loop-one-preserved : goal.loop-one-preserved
loop-one-preserved c =
    let spelled = c.args.spelled.now in
    let n = c.loop-one.one-index in
    let x = c.one-item.result in
    let before = c.loop-one.invariant in
    let items = c.loop-one.members.items in
    let id = c.in_ok-id.ensures.passes in
    let is = c.in_ok-add_member.ensures ∙ ap (λ (p : Principal). items ++ p ∷ []) (c.principal_with.ensures ∙ ap (kind_of x.kind) id.1.0) in
    record {
      passes = this_passes (λ p. bad_id p.text) spelled n x c.loop-one-test.true c.one-item.is before.passes id.0;
      made = subst (λ (ms : List Principal). ms ++ map principal_of (drop (n + 1) spelled) ≡ map principal_of spelled) (sym is) (one_more_made principal_of spelled items n x (rest_is spelled n x c.loop-one-test.true c.one-item.is) before.made);
      fit = subst (AllByRecursion FitsPrincipal) (sym is) (all_more FitsPrincipal items (principal_of x) before.fit (subst (λ (i : List ℕ). FitsPrincipal (kind_of x.kind i)) id.1.0 (kind_fits x.kind c.in_ok-id.id id.1.1)));
    }

pub returns-in_err-id-clause-passes : goal.returns-in_err-id-clause-passes
returns-in_err-id-clause-passes c =
    let e = c.in_err-id.field-0.0 in
    passed_on (first_of (λ p. bad_id p.text) c.args.spelled.now) _ c.from_residual.result e c.from_residual.ensures.1
    (this_fails (λ p. bad_id p.text) c.args.spelled.now c.loop-one.one-index c.one-item.result c.loop-one-test.true c.one-item.is e c.loop-one.invariant.passes c.in_err-id.ensures.passes)

pub returns-clause-passes : goal.returns-clause-passes
returns-clause-passes c =
    let spelled = c.args.spelled.now in
    let n = c.loop-one.one-index in
    let before = c.loop-one.invariant in (
      sym before.passes ∙ none_left (λ p. bad_id p.text) spelled n c.loop-one-test.false,
      (all_made principal_of spelled c.loop-one.members.items n c.loop-one-test.false before.made, All-from_recursion FitsPrincipal c.loop-one.members.items before.fit),
    )
