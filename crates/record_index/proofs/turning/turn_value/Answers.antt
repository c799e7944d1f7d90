use Rattle.std.proofs.Common.{Bor}
use Rattle.std.specs.Option.{option_map}
use Rattle.std.proofs.lemmas.Result.{on_ok_weaker}
use Rattle.record_index.specs.Made.{entry_of}
use Rattle.record_index.proofs.Turned.{slot_turned}
use Rattle.record_index.proofs.turning.turn_value.Goals as goal
use Rattle.store_abstraction.specs.Entries.{Entry}
use Rattle.base_value.specs.declared.value.Value.{Value}

pub returns-clause-changes : goal.returns-clause-changes
returns-clause-changes c =
    on_ok_weaker c.turn_reference.result
    (slot_turned c.args.at.now.org c.args.at.now.object c.args.at.now.id (option_map {T = Bor Value} {U = Entry} (λ v. entry_of c.args.field.now v.now) c.args.old) (option_map {T = Bor Value} {U = Entry} (λ v. entry_of c.args.field.now v.now) c.args.new) c.args.at.now.slot
    c.in_ok-old_index.old_index c.in_ok-new_index.new_index c.in_ok-old_unique.old_unique c.in_ok-new_unique.new_unique c.reference_key.result c.reference_key-2.result
    c.args.changes.now.items c.turn_index.new.changes.items c.turn_unique.new.changes.items c.turn_reference.new.changes.items
    c.in_ok-old_index.ensures.key c.in_ok-new_index.ensures.key c.in_ok-old_unique.ensures.key c.in_ok-new_unique.ensures.key c.reference_key.ensures.key c.reference_key-2.ensures.key
    c.in_ok-turn_index.ensures.changes c.in_ok-turn_unique.ensures.changes)
    c.turn_reference.ensures.changes
