use Rattle.query_bind.proofs.Celled.{cell_bound}
use Rattle.query_bind.proofs.cells.bind_cell.Goals as goal

pub returns-clause-binds : goal.returns-clause-binds
returns-clause-binds c = cell_bound c.args.layouts.now c.args.layout.now _ c.args.path.now _ c.in_ok-bind_path.ensures.binds
