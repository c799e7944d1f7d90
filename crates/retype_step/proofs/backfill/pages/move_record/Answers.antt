use Rattle.std.proofs.lemmas.Result.{on_ok_weaker}
use Rattle.retype_step.proofs.Loops.{moves_fit, moves_on}
use Rattle.retype_step.proofs.Twins.{all_convert, types_after, values_after}
use Rattle.retype_step.proofs.backfill.pages.move_record.Goals as goal

pub turned_row-requires-clause-types : goal.turned_row-requires-clause-types
turned_row-requires-clause-types c = types_after c.args.layout.now c.args.come.now c.requires.come.0 c.requires.come.1 c.requires.types

pub turned_row-requires-clause-values : goal.turned_row-requires-clause-values
turned_row-requires-clause-values c = values_after c.args.layout.now c.args.come.now c.requires.come.0 c.requires.come.1 c.args.item.now c.requires.values

pub turned_row-requires-clause-converts : goal.turned_row-requires-clause-converts
turned_row-requires-clause-converts c = all_convert c.args.layout.now c.args.come.now c.requires.come.0 c.requires.come.1 c.requires.converts

pub turned_row-requires-clause-kept : goal.turned_row-requires-clause-kept
turned_row-requires-clause-kept c =
    c.in_ok-bare.ensures.fits (types_after c.args.layout.now c.args.come.now c.requires.come.0 c.requires.come.1 c.requires.types)
    (values_after c.args.layout.now c.args.come.now c.requires.come.0 c.requires.come.1 c.args.item.now c.requires.values) tt

pub returns-clause-changes : goal.returns-clause-changes
returns-clause-changes c =
    on_ok_weaker c.turn_twin.result
    (moves_on c.args.layout.now c.args.come.now c.args.kept.now c.args.item.now c.in_ok-bare.bare c.in_ok-row.row c.args.changes.now.items c.put_row.new.changes.items c.turn_twin.new.changes.items c.in_ok-bare.ensures.row c.in_ok-row.ensures.row c.in_ok-put_row.ensures)
    c.turn_twin.ensures.changes

pub returns-clause-fits : goal.returns-clause-fits
returns-clause-fits c =
    on_ok_weaker c.turn_twin.result
    (moves_fit c.args.layout.now c.args.come.now c.args.kept.now c.args.item.now c.in_ok-bare.bare c.in_ok-row.row c.in_ok-bare.ensures.row c.in_ok-row.ensures.row c.in_ok-row.ensures.fits)
    c.turn_twin.ensures.fits
