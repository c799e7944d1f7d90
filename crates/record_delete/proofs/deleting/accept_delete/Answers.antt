use Rattle.std.proofs.Common.{subst}
use Rattle.record_delete.specs.inner.Doomed.{FindsTarget}
use Rattle.record_delete.proofs.Dooming.{failed}
use Rattle.record_delete.proofs.deleting.accept_delete.Goals as goal

pub returns-in_err-id-clause-accepts : goal.returns-in_err-id-clause-accepts
returns-in_err-id-clause-accepts g c told q a s hers =
    let name = c.args.name.now in
    let key = c.args.key.now in
    failed c.args.org q a name key c.in_err-id.field-0.0 c.from_residual.result (subst (FindsTarget a name key) c.in_err-id.was (c.target.ensures.finds told q a s hers)) c.from_residual.ensures.1
