use Rattle.std.proofs.Common.{◌≡◌, vec_len}
use Rattle.store_kv.specs.Laid.{laid}
use Rattle.store_kv.specs.Memory.{tables_in}
use Rattle.store_kv.specs.inner.Changes.{HasPlaces}
use Rattle.store_kv.proofs.changes.put_back.Given as goal

abbrev pub invariant-undo : goal.invariant-undo
invariant-undo l = (laid l.done.items (tables_in l.rows.entries) ≡ laid l.initial.done.items (tables_in l.initial.rows.entries)) × HasPlaces l.rows l.done.items

abbrev pub decreases-undo : goal.decreases-undo
decreases-undo l = vec_len l.done
