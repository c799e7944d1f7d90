use Rattle.std.proofs.Common.{◌<◌, arith, length, subst, sym, List}
use Rattle.model.specs.Shown.{path_steps}
use Rattle.query_plan.specs.declared.check.Spot.{Spot}
use Rattle.query_bind.proofs.Celled.{cell_later}
use Rattle.query_bind.proofs.Counted.{few_more}
use Rattle.query_plan.proofs.Branching.{added_twice}
use Rattle.query_bind.specs.inner.Cells.{BindsCell}
use Rattle.query_bind.specs.inner.Ends.{Each}
use Rattle.query_bind.proofs.Keyed.{each_end, each_more}
use Rattle.query_bind.proofs.cells.bind_paths.Goals as goal

pub loop-path-preserved : goal.loop-path-preserved
loop-path-preserved c =
    let ls = c.args.layouts.now in
    let l = c.args.layout.now in
    let paths = c.args.paths.now in
    let i = c.loop-path.path-index in
    let lt : i < length paths = omega (arith, c.loop-path-test.true) in
    record {
      grown = added_twice _ _ _ c.loop-path.invariant.grown c.bind_cell.ensures.grows;
      so_far = each_more (BindsCell ls l) (cell_later ls l) c.loop-path.branches.items c.bind_cell.new.branches.items c.bind_cell.ensures.grows paths i c.path-item.result
          c.loop-path.bound.items c.push.new.self.items c.in_ok-bind_cell.field-0 lt c.path-item.is c.in_ok-push.ensures.items c.in_ok-bind_cell.ensures.binds c.loop-path.invariant.so_far;
      few = few_more path_steps c.args.branches.now.items c.loop-path.branches.items c.bind_cell.new.branches.items paths i
          c.path-item.result lt c.path-item.is c.bind_cell.ensures.few c.loop-path.invariant.few;
    }

pub returns-clause-binds : goal.returns-clause-binds
returns-clause-binds c =
    let P = BindsCell c.args.layouts.now c.args.layout.now in
    let bs = c.loop-path.branches.items in
    subst (λ (cs : List Spot). Each (P bs) c.args.paths.now cs) (sym c.from_vec.ensures)
    (each_end P bs c.loop-path.invariant.grown.order c.args.paths.now c.loop-path.path-index c.loop-path.bound.items c.loop-path-test.false c.loop-path.invariant.so_far)
