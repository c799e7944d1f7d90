use Rattle.std.proofs.Common.{◌≡◌, ◌∙◌}
use Rattle.std.specs.Option.{option_copied, option_map}
use Rattle.model.specs.Principals.{spelled_id}
use Rattle.model.specs.Rules.{first_refusal}
use Rattle.people_edit.specs.inner.Drawing.{new_rules}
use Rattle.people_edit.proofs.Drawing.{id_fails, name_fails, none_fails, role_fails, room_fails}
use Rattle.store_edit.proofs.StepByStep.{passed_on}
use Rattle.people_edit.proofs.edits.drawing.judge_new.Goals as goal

pub returns-in_err-check_name-clause-passes : goal.returns-in_err-check_name-clause-passes
returns-in_err-check_name-clause-passes g c told q t s =
    let role = option_copied c.args.role in
    let e = c.in_err-check_name.field-0.0 in
    passed_on (first_refusal (new_rules c.args.kind c.args.row.now t c.args.name.now role)) (λ id. id ≡ option_map spelled_id role) c.from_residual.result e c.from_residual.ensures.1
    (name_fails c.args.kind c.args.row.now t c.args.name.now role e c.in_err-check_name.ensures.passes)

pub returns-in_err-named-clause-passes : goal.returns-in_err-named-clause-passes
returns-in_err-named-clause-passes g c told q t s =
    let role = option_copied c.args.role in
    let e = c.in_err-named.field-0.0 in
    passed_on (first_refusal (new_rules c.args.kind c.args.row.now t c.args.name.now role)) (λ id. id ≡ option_map spelled_id role) c.from_residual-in_err-named.result e c.from_residual-in_err-named.ensures.1
    (id_fails c.args.kind c.args.row.now t c.args.name.now role c.in_ok-check_name.ensures.passes.0 e c.in_err-named.ensures.passes)

pub returns-in_err-find_role-clause-passes : goal.returns-in_err-find_role-clause-passes
returns-in_err-find_role-clause-passes g c told q t s =
    let role = option_copied c.args.role in
    let e = c.in_err-find_role.field-0.0 in
    passed_on (first_refusal (new_rules c.args.kind c.args.row.now t c.args.name.now role)) (λ id. id ≡ option_map spelled_id role) c.from_residual-in_err-find_role.result e c.from_residual-in_err-find_role.ensures.1
    (role_fails c.args.kind c.args.row.now t c.args.name.now role c.in_ok-check_name.ensures.passes.0 c.in_ok-named.ensures.passes.0 _ c.in_ok-named.named c.member.ensures c.in_ok-named.ensures.passes.1.0 e (c.in_err-find_role.ensures.passes told q t s))

pub returns-in_err-check_room-clause-passes : goal.returns-in_err-check_room-clause-passes
returns-in_err-check_room-clause-passes g c told q t s =
    let role = option_copied c.args.role in
    let e = c.in_err-check_room.field-0.0 in
    passed_on (first_refusal (new_rules c.args.kind c.args.row.now t c.args.name.now role)) (λ id. id ≡ option_map spelled_id role) c.from_residual-in_err-check_room.result e c.from_residual-in_err-check_room.ensures.1
    (room_fails c.args.kind c.args.row.now t c.args.name.now role c.in_ok-check_name.ensures.passes.0 c.in_ok-named.ensures.passes.0 _ c.in_ok-named.named c.member.ensures c.in_ok-named.ensures.passes.1.0 (c.in_ok-find_role.ensures.passes told q t s).0
    c.limit.result c.from.result c.limit.ensures (c.from.ensures ∙ c.count.ensures) e c.in_err-check_room.ensures.passes)

pub returns-clause-passes : goal.returns-clause-passes
returns-clause-passes g c told q t s =
    let role = option_copied c.args.role in (
      none_fails c.args.kind c.args.row.now t c.args.name.now role c.in_ok-check_name.ensures.passes.0 c.in_ok-named.ensures.passes.0 _ c.in_ok-named.named c.member.ensures c.in_ok-named.ensures.passes.1.0 (c.in_ok-find_role.ensures.passes told q t s).0
          c.limit.result c.from.result c.limit.ensures (c.from.ensures ∙ c.count.ensures) c.in_ok-check_room.ensures.passes.0,
      c.in_ok-named.ensures.passes.1.0,
    )
