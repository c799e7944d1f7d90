use Rattle.std.proofs.Common.{◌≡◌, ◌∙◌, List, ◌++◌, ap, map, subst}
use Rattle.store_edit.specs.Rows.{spelled}
use Rattle.store_kv.specs.declared.keeper.Change.{Change as Spelled}
use Rattle.store_rows.specs.declared.share.ShareRow.{ShareRow}
use Rattle.record_index.specs.Turned.{turned_changes}
use Rattle.record_target.specs.Shares.{shares_removed}
use Rattle.record_save.specs.inner.Judged.{HaveKeys}
use Rattle.record_save.proofs.AlteredChanges.{keys_both, made_both}
use Rattle.record_save.proofs.updating.decided_update.Goals as goal

pub returns-clause-made : goal.returns-clause-made
returns-clause-made c =
    let x = c.args.altered in
    let k = c.args.kept.now in
    let l = c.args.layout.now in
    let first : c.remove_shares.new.changes.items ≡ map spelled (shares_removed l.org x.new.id x.shares) =
    c.in_ok-remove_shares.ensures.changes
    ∙ ap (λ (cs : List Spelled). cs ++ map spelled (shares_removed l.org x.new.id c.as_slice.result.now)) c.new-changes.ensures.items
    ∙ ap (λ (us : List ShareRow). map spelled (shares_removed l.org x.new.id us)) c.as_slice.ensures in
    made_both (shares_removed l.org x.new.id x.shares) (turned_changes l k.row k.item x.new)
    c.remove_shares.new.changes.items c.changed_record_changes.new.changes.items first c.in_ok-changed_record_changes.ensures.changes

pub returns-clause-keys : goal.returns-clause-keys
returns-clause-keys c =
    let x = c.args.altered in
    let k = c.args.kept.now in
    let l = c.args.layout.now in
    keys_both (shares_removed l.org x.new.id x.shares) (turned_changes l k.row k.item x.new)
    (subst (λ (us : List ShareRow). HaveKeys (shares_removed l.org x.new.id us)) c.as_slice.ensures c.in_ok-remove_shares.ensures.fits) c.in_ok-changed_record_changes.ensures.fits
