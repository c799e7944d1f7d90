use Rattle.std.proofs.Common.{◌≡◌, take}
use Rattle.store_kv.specs.Tables.{after}
use Rattle.store_kv.specs.Laid.{laid}
use Rattle.store_kv.specs.Memory.{tables_in}
use Rattle.store_kv.specs.inner.Changes.{HasPlaces}
use Rattle.store_kv.proofs.changes.change_all.Given as goal

abbrev pub invariant-loop-change : goal.invariant-loop-change
invariant-loop-change l =
    (tables_in l.rows.entries ≡ after (take l.change-index l.changes) (tables_in l.initial.rows.entries)) × (laid l.done.items (tables_in l.rows.entries) ≡ tables_in l.initial.rows.entries) × HasPlaces l.rows l.done.items
