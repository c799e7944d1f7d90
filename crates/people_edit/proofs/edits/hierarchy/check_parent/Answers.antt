use Rattle.std.proofs.Common.{◌∙◌, ◌||◌, List, ℕ, Option, Some, ap, bytes_eq, is_none, sym}
use Rattle.std.specs.Str.{chars}
use Rattle.model.specs.declared.refusal.Refusal.TheVariants.{InvalidReference}
use Rattle.model.specs.Membership.{is_below}
use Rattle.model.specs.Principals.{role_at}
use Rattle.people_edit.specs.inner.Changing.{bad_parent_id}
use Rattle.people_edit.proofs.Hierarchy.{bad_above_is}
use Rattle.people_edit.proofs.Ids.{not_refused, refused_reference}
use Rattle.people_edit.proofs.edits.hierarchy.check_parent.Goals as goal

pub returns-then-is_bad_above-clause-passes : goal.returns-then-is_bad_above-clause-passes
returns-then-is_bad_above-clause-passes g c told q t s =
    let role = c.args.role.now in
    let parent = c.in-Some.parent in
    let member = chars c.args.member.now in
    let bad = c.is_bad_above.ensures ∙ bad_above_is c.args.org t c.as_slice.result.now role parent (c.as_slice.ensures.value ∙ c.in_ok-roles-in-Some.ensures.finds told q (Some t) s) in
    ap (λ (o : Option (List ℕ)). bad_parent_id t member role o) c.in-Some.is
    ∙ refused_reference (is_none (role_at t parent) || (bytes_eq parent role || is_below t parent role)) member c.in_ok-from_str-in-Some.field-0 (sym bad ∙ c.if-is_bad_above.true) c.in_ok-from_str-in-Some.ensures

pub returns-clause-passes : goal.returns-clause-passes
returns-clause-passes g c told q t s =
    let role = c.args.role.now in
    let parent = c.in-Some.parent in
    let member = chars c.args.member.now in
    let bad = c.is_bad_above.ensures ∙ bad_above_is c.args.org t c.as_slice.result.now role parent (c.as_slice.ensures.value ∙ c.in_ok-roles-in-Some.ensures.finds told q (Some t) s) in (
      ap (λ (o : Option (List ℕ)). bad_parent_id t member role o) c.in-Some.is ∙ not_refused (is_none (role_at t parent) || (bytes_eq parent role || is_below t parent role)) (InvalidReference member) (sym bad ∙ c.if-is_bad_above.false),
      tt,
    )
