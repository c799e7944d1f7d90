use Rattle.std.proofs.Common.{◌∙◌, List, ap, refl, subst, ℤ}
use Rattle.soql.specs.declared.query.Path.{Path}
use Rattle.query_bind.specs.declared.cells.CellPlan.{CellPlan}
use Rattle.query_bind.specs.inner.Cells.{BindsCell}
use Rattle.query_bind.specs.inner.Ends.{Each}
use Rattle.query_bind.specs.Cells.{paths_in}
use Rattle.query_bind.specs.inner.Tails.{BindsTail}
use Rattle.query_bind.proofs.Bound.{same_day}
use Rattle.query_bind.proofs.Celled.{few_cells, means_cells}
use Rattle.query_bind.proofs.cells.bind_cells.Goals as goal

pub returns-clause-means : goal.returns-clause-means
returns-clause-means c =
    let ls = c.args.layouts.now in
    let l = c.args.layout.now in
    let q = c.args.query.now in
    let mid = c.bind_paths.new.branches.items in
    let new = c.bind_tail.new.branches.items in
    let cells = c.in_ok-cells.cells in
    let b = c.in_ok-tail.tail in
    let plan : CellPlan = record {
      cells = cells;
      choice = record { branches = c.from_vec.result; check = b.check; order = b.order; skip = c.skip_of.result; most = c.most_of.result };
    } in
    means_cells ls l c.args.day q mid new cells b plan
    (record {
      bound = subst (λ (ps : List Path). Each (BindsCell ls l mid) ps cells) (c.as_slice-2.ensures ∙ (c.in_ok-paths.ensures ∙ ap paths_in c.as_slice.ensures)) c.in_ok-cells.ensures.binds;
      tail = subst (λ (d : ℤ). BindsTail ls l d q.tail new b) (same_day c.args.day c.ranges.day) c.in_ok-tail.ensures.binds;
      adds = c.bind_tail.ensures.grows;
      branches = c.from_vec.ensures;
      check = refl;
      order = refl;
      skip = c.skip_of.ensures;
      most = c.most_of.ensures;
      cells_of = refl;
    })

pub returns-clause-few : goal.returns-clause-few
returns-clause-few c =
    few_cells c.args.query.now c.as_slice-2.result.now c.new-branches.result.items c.bind_paths.new.branches.items c.bind_tail.new.branches.items c.from_vec.result
    (c.as_slice-2.ensures ∙ (c.in_ok-paths.ensures ∙ ap paths_in c.as_slice.ensures)) c.new-branches.ensures.items
    c.in_ok-cells.ensures.few c.bind_tail.ensures.few c.from_vec.ensures
