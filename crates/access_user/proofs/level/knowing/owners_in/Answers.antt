use Rattle.std.proofs.Common.{◌∙◌, ◌<◌, length, sym, arith}
use Rattle.access_user.specs.level.inner.Parts.{owner_by_row}
use Rattle.access_user.proofs.Listed.{left_out, picked_next}
use Rattle.access_user.proofs.level.knowing.owners_in.Goals.{in-Some+in_ok-push-in-Some, in-None}
use Rattle.access_user.proofs.level.knowing.owners_in.Goals as goal

pub loop-row-preserved : goal.loop-row-preserved
loop-row-preserved c = λ hierarchy org t u is members.
    let rows = c.args.rules.now in
    let i = c.loop-row.row-index in
    let row = c.row-item.result in
    let h = owner_by_row hierarchy t u c.args.object in
    let lt : i < length rows = omega (arith, c.loop-row-test.true) in
    let says = c.owner_of_row.ensures hierarchy org t u is members in
    let before = c.loop-row.invariant hierarchy org t u is members in
    elim c.match-owner_of_row.branch [
      | in-Some+in_ok-push-in-Some w ↦ w.found-is ∙ w.in_ok-push-in-Some.ensures.ok ∙ picked_next h rows i row lt c.row-item.is c.loop-row.found w.in-Some.rule before (sym w.in-Some.is ∙ says)
      | in-None w ↦ w.found-is ∙ left_out h rows i row lt c.row-item.is c.loop-row.found before (sym w.in-None.is ∙ says)
    ]
