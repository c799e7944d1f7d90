use Rattle.std.proofs.Common.{◌≡◌, ◌++◌, map}
use Rattle.store_kv.specs.inner.Changes.{change_of}
use Rattle.store_kv.proofs.draft.batch_of.Given as goal

abbrev pub invariant-loop-place : goal.invariant-loop-place
invariant-loop-place l = l.changes.items ++ map change_of l.place-iterator ≡ map change_of l.initial.place-iterator
