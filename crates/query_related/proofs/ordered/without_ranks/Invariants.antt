use Rattle.std.proofs.Common.{◌≡◌, ◌++◌, map}
use Rattle.std.specs.Vec.Iter.{into_iter_items}
use Rattle.query_related.specs.inner.Taken.{kept_of}
use Rattle.query_related.proofs.ordered.without_ranks.Given as goal

abbrev pub invariant-loop-row : goal.invariant-loop-row
invariant-loop-row l = l.children ++ map kept_of (into_iter_items l.row-iterator) ≡ map kept_of l.fn.rows.items
