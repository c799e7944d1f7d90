use Rattle.std.proofs.Common.{[], rules}
use Rattle.std.proofs.lemmas.Result.{on_ok_weaker}
use Rattle.store_rows.specs.Keys.{Relation}
use Rattle.record_index.proofs.Turned.{turned_apart, turned_reference_fits}
use Rattle.record_index.proofs.rows.turn_reference.Goals as goal

pub returns-clause-changes : goal.returns-clause-changes
returns-clause-changes c =
    on_ok_weaker c.put_reference.result
    (turned_apart (λ k. Relation c.args.at.now.org c.args.at.now.object c.args.at.now.slot k c.args.at.now.id) [] c.args.old c.args.new c.args.changes.now.items c.remove_reference.new.changes.items c.put_reference.new.changes.items (search (rules, c.if-eq.ensures, c.if-eq.false)) c.in_ok-remove_reference.ensures.changes)
    c.put_reference.ensures.changes

pub returns-clause-fits : goal.returns-clause-fits
returns-clause-fits c =
    on_ok_weaker c.put_reference.result
    (λ _. turned_reference_fits c.args.at.now.org c.args.at.now.object c.args.at.now.slot c.args.at.now.id c.args.old c.args.new c.slot_fits.ensures.org c.slot_fits.ensures.object c.slot_fits.ensures.slot c.slot_fits.ensures.id c.requires.old c.requires.new)
    c.put_reference.ensures.changes
