use Rattle.std.proofs.Common.{length}
use Rattle.query_exec.specs.Relatives.{by_relatives}
use Rattle.query_exec.specs.inner.Judging.{IsOf}
use Rattle.query_exec.specs.inner.Offers.{WritesTaken}
use Rattle.query_exec.proofs.Passing.{Passing}
use Rattle.query_exec.proofs.offers.offer_rows.Given as goal

abbrev pub invariant-rows : goal.invariant-rows
invariant-rows g l =
    let parents = g.L.Relatives.parents l.relatives in
    let row = by_relatives parents (g.L.Relatives.children l.relatives) (g.W.RowForm.written l.form) in
    Passing g.K.Keeper.state l.layout (g.L.Relatives.whose l.relatives l.layout.org) (λ w x. IsOf l.layout (parents w) x.kept) (g.L.Relatives.children_shown l.relatives) l.fn.rows l.left
    (λ w seen. WritesTaken (row w) l.fn.progress l.progress l.fn.out.items l.out.items seen) l.fn.draft l.draft

abbrev pub decreases-rows : goal.decreases-rows
decreases-rows g l = length l.left
