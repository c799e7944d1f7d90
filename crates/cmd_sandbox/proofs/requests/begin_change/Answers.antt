use Rattle.cmd_sandbox.proofs.Keeping.{change_keeps}
use Rattle.cmd_sandbox.proofs.requests.begin_change.Goals as goal

pub returns : goal.returns
returns c now a made = c.step.ensures now a made c.requires (change_keeps a c.args.object.now c.args.field.now c.args.kind.now)
