use Rattle.std.proofs.Common.{◌<◌, ◌∙◌, ap, length, arith}
use Rattle.std.specs.Prelude.{slice_set, true}
use Rattle.model.specs.Cases.{in_case}
use Rattle.access_closure.specs.inner.Chosen.{roles_with, set_at, users_with}
use Rattle.access_closure.proofs.Looping.{roles_on, users_on}
use Rattle.access_closure.proofs.chosen.choose_more.Goals as goal

pub loop-row-preserved : goal.loop-row-preserved
loop-row-preserved c =
    let roles = c.args.roles.now in
    let below = c.args.below.now in
    let users = c.args.users.now in
    let lt : c.loop-row.row-index < length users = omega (arith, c.loop-row-test.true) in (
      omega (arith, c.loop-row.invariant.0),
      λ rise. users_on roles below users c.loop-row.row-index c.row-item.result c.loop-row.place c.loop-row.chosen.users.items c.add_user.new.chosen.users.items (users_with roles below 0 users c.args.chosen.now.users.items)
          lt c.row-item.is
          (c.add_user.ensures.users ∙ ap (λ o. in_case o c.loop-row.chosen.users.items (λ m. slice_set c.loop-row.chosen.users.items c.loop-row.place true)) (c.role_among.ensures rise)) (c.loop-row.invariant.1 rise),
      λ rise. roles_on roles below users c.loop-row.row-index c.row-item.result c.loop-row.chosen.roles.items c.add_user.new.chosen.roles.items (roles_with roles below users c.args.chosen.now.roles.items)
          lt c.row-item.is (c.add_user.ensures.roles ∙ ap (set_at c.loop-row.chosen.roles.items) (c.role_among.ensures rise)) (c.loop-row.invariant.2 rise),
    )
