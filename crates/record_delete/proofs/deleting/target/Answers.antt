use Rattle.std.proofs.Common.{subst, sym}
use Rattle.record_target.specs.Named.{FindsPermitted}
use Rattle.record_delete.specs.inner.Doomed.{IsTarget}
use Rattle.base_value.specs.declared.sharing.Level.TheVariants.{Full}
use Rattle.record_delete.proofs.Dooming.{no_target, target_of}
use Rattle.record_delete.proofs.deleting.target.Goals as goal

pub returns-in_err-named-clause-finds : goal.returns-in_err-named-clause-finds
returns-in_err-named-clause-finds g c told q a s hers =
    let org = c.args.org in
    let name = c.args.name.now in
    let key = c.args.key.now in
    no_target org q a name key c.in_err-named.field-0.0 c.from_residual.result (subst (FindsPermitted org q a name key Full) c.in_err-named.was (c.find_permitted.ensures.finds told q a s hers)) c.from_residual.ensures.1

pub returns-clause-finds : goal.returns-clause-finds
returns-clause-finds g c told q a s hers =
    let org = c.args.org in
    let name = c.args.name.now in
    let key = c.args.key.now in
    subst (IsTarget a name key) (sym c.id_of.ensures)
    (target_of org q a name key c.in_ok-named.named (subst (FindsPermitted org q a name key Full) c.in_ok-named.was (c.find_permitted.ensures.finds told q a s hers)))
