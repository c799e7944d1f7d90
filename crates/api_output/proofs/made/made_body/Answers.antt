use Rattle.api_output.proofs.Written.{made_reply}
use Rattle.api_output.proofs.made.made_body.Goals as goal

pub returns : goal.returns
returns c = made_reply c.new-writer.result c.write_made.new.writer c.finish.result c.args.id.now c.new-writer.ensures c.in_ok-write_made.ensures c.finish.ensures
