use Rattle.std.proofs.Common.{◌+◌}
use Rattle.std.specs.Vec.Iter.{into_iter_items}
use Rattle.query_exec.specs.inner.Judging.{judging}
use Rattle.query_exec.proofs.Permitting.{Admitting}
use Rattle.query_exec.proofs.permitted.admit_rows.Given as goal

abbrev pub invariant-loop-row : goal.invariant-loop-row
invariant-loop-row g l =
    Admitting g.K.Keeper.state l.layout
    (judging (g.S.Sight.sees l.sight l.layout) (g.L.Relatives.whose l.relatives l.layout.org) (g.L.Relatives.parents l.relatives) (g.P.Keeps.keep l.keeps) (g.R.Ranks.ranked l.ranks))
    (g.S.Sight.shown + g.L.Relatives.parents_shown l.relatives) l.fn.rows.items (into_iter_items l.row-iterator) l.fn.kept.items l.kept.items l.fn.draft l.draft
