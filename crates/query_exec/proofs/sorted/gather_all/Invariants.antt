use Rattle.std.proofs.Common.{◌+◌, List, length}
use Rattle.model.specs.declared.record.Record.{Record}
use Rattle.model.specs.Paths.{Asked}
use Rattle.store_abstraction.specs.Calls.{done}
use Rattle.query_exec.specs.inner.Judging.{IsOf, judging}
use Rattle.query_exec.proofs.Cutting.{GathersApart}
use Rattle.query_exec.proofs.Working.{UnderWay}
use Rattle.query_exec.proofs.sorted.gather_all.Given as goal

abbrev pub invariant-pages : goal.invariant-pages
invariant-pages g l =
    let j = judging (g.S.Sight.sees l.sight l.layout) (g.L.Relatives.whose l.relatives l.layout.org) (g.L.Relatives.parents l.relatives) (g.P.Keeps.keep l.keeps) (g.R.Ranks.ranked l.ranks) in
    UnderWay g.K.Keeper.state l.layout j (g.S.Sight.shown + g.L.Relatives.parents_shown l.relatives) (λ (rs : List Record). ⊥)
    (λ (x : Asked) (rs : List Record). GathersApart g.R.Rank.Ord.cmp g.met.R.Rank.Ord.total (IsOf l.layout (j.parents x)) (j.rank x) l.wanted l.gathered.items rs) l.pages (length l.gathered.items) done l.fn.draft l.draft

abbrev pub decreases-pages : goal.decreases-pages
decreases-pages g l = l.pages.left
