use Rattle.std.proofs.Common.{◌≤◌, ◌∙◌, List, length, sym, subst}
use Rattle.store_rows.specs.declared.share.ShareRow.{ShareRow}
use Rattle.record_delete.proofs.EndedRows.{adds_ended, these_ended}
use Rattle.record_delete.proofs.ending.end_shares_of.Goals as goal

pub returns-clause-adds : goal.returns-clause-adds
returns-clause-adds g c told q t s =
    these_ended c.args.org t c.args.id.now c.as_slice.result.now c.args.changes.now.items c.remove_shares.new.changes.items
    (c.as_slice.ensures ∙ c.in_ok-rows.ensures.lists told q t s) c.in_ok-remove_shares.ensures.fits c.in_ok-remove_shares.ensures.changes

pub returns-clause-own : goal.returns-clause-own
returns-clause-own g c =
    adds_ended c.args.org c.args.id.now c.as_slice.result.now c.args.changes.now.items c.remove_shares.new.changes.items
    (subst (λ (us : List ShareRow). length us ≤ 100) (sym c.as_slice.ensures) c.in_ok-rows.ensures.few) c.in_ok-remove_shares.ensures.fits c.in_ok-remove_shares.ensures.changes
