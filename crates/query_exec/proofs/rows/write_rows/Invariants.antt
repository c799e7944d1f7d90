use Rattle.std.proofs.Common.{◌+◌, List, length}
use Rattle.model.specs.declared.record.Record.{Record}
use Rattle.store_abstraction.specs.Calls.{done}
use Rattle.query_exec.specs.Relatives.{by_relatives}
use Rattle.query_exec.specs.Windows.{HasAll}
use Rattle.query_exec.specs.inner.Judging.{judging, unranked}
use Rattle.query_exec.proofs.Working.{Offers, UnderWay}
use Rattle.query_exec.proofs.rows.write_rows.Given as goal

abbrev pub invariant-pages : goal.invariant-pages
invariant-pages g l =
    let parents = g.L.Relatives.parents l.relatives in
    let row = by_relatives parents (g.L.Relatives.children l.relatives) (g.W.RowForm.written l.form) in
    UnderWay g.K.Keeper.state l.layout
    (judging (g.S.Sight.sees l.sight l.layout) (g.L.Relatives.whose l.relatives l.layout.org) parents (g.P.Keeps.keep l.keeps) unranked)
    (g.S.Sight.shown + g.L.Relatives.parents_shown l.relatives + g.L.Relatives.children_shown l.relatives)
    (λ (rs : List Record). HasAll l.fn.window.skip l.fn.window.most (length rs))
    (Offers row l.fn.window l.room l.fn.out.items l.progress l.out.items) l.pages 0 done l.fn.draft l.draft

abbrev pub decreases-pages : goal.decreases-pages
decreases-pages g l = l.pages.left
