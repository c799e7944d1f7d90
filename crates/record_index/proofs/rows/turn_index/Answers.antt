use Rattle.std.proofs.Common.{[], rules}
use Rattle.std.proofs.lemmas.Result.{on_ok_weaker}
use Rattle.store_rows.specs.Keys.{Index}
use Rattle.record_index.proofs.Turned.{turned_apart, turned_index_fits}
use Rattle.record_index.proofs.rows.turn_index.Goals as goal

pub returns-clause-changes : goal.returns-clause-changes
returns-clause-changes c =
    on_ok_weaker c.put_index.result
    (turned_apart (λ k. Index c.args.at.now.org c.args.at.now.object c.args.at.now.slot k c.args.at.now.id) [] c.args.old c.args.new c.args.changes.now.items c.remove_index.new.changes.items c.put_index.new.changes.items (search (rules, c.if-eq.ensures, c.if-eq.false)) c.in_ok-remove_index.ensures.changes)
    c.put_index.ensures.changes

pub returns-clause-fits : goal.returns-clause-fits
returns-clause-fits c =
    on_ok_weaker c.put_index.result
    (λ _. turned_index_fits c.args.at.now.org c.args.at.now.object c.args.at.now.slot c.args.at.now.id c.args.old c.args.new c.slot_fits.ensures.org c.slot_fits.ensures.object c.slot_fits.ensures.slot c.slot_fits.ensures.id c.requires.old c.requires.new)
    c.put_index.ensures.changes
