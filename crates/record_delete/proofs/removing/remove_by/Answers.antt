use Rattle.std.proofs.Common.{List, subst}
use Rattle.std.specs.Prelude.{Ok}
use Rattle.store_abstraction.specs.Changes.{Change}
use Rattle.record_delete.specs.inner.Adding.{AddsThese}
use Rattle.record_delete.proofs.Doing.{removed_adds}
use Rattle.record_delete.proofs.RecordRows.{removed_are}
use Rattle.record_delete.proofs.There.{found_kept}
use Rattle.record_delete.proofs.removing.remove_by.Goals as goal

pub returns-clause-adds : goal.returns-clause-adds
returns-clause-adds g c told q t u s its there gone =
    let l = c.args.layout.now in
    let id = c.args.id.now in
    let k = c.in_ok-kept.kept in
    let kept = found_kept q t l id c.record_there.result k (c.record_there.ensures.finds told q t s its) c.in_ok-kept.was in
    let ensures = c.in_ok-removed_record_changes.ensures in
    subst (λ (cs : List Change). AddsThese {X = Unit {0}} cs c.args.changes.now.items c.removed_record_changes.new.changes.items (Ok tt))
    (removed_are q t l id k its kept c.pivot_laws.ensures.removed s.sound s.plan u gone) (ensures.changes, ensures.fits)

pub returns-clause-own : goal.returns-clause-own
returns-clause-own g c =
    let k = c.in_ok-kept.kept in
    let laws = c.pivot_laws.ensures in
    let ensures = c.in_ok-removed_record_changes.ensures in
    removed_adds laws.removed_few laws.removed_gone c.args.layout.now k.row k.item c.args.changes.now.items c.removed_record_changes.new.changes.items ensures.changes ensures.fits
