use Rattle.cmd_sandbox.proofs.Keeping.{field_keeps}
use Rattle.cmd_sandbox.proofs.requests.make_field.Goals as goal

pub returns : goal.returns
returns c now a made = c.step.ensures now a made c.requires (field_keeps a c.args.new.now)
