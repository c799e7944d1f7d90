use Rattle.cmd_sandbox.proofs.Keeping.{object_keeps}
use Rattle.cmd_sandbox.proofs.requests.make_object.Goals as goal

pub returns : goal.returns
returns c now a made = c.step.ensures now a made c.requires (object_keeps a c.args.new.now)
