use Rattle.api_output.proofs.Written.{upserted_reply}
use Rattle.api_output.proofs.made.upserted_body.Goals as goal

pub returns : goal.returns
returns c = upserted_reply c.new-writer.result c.write_upserted.new.writer c.finish.result c.args.id.now c.args.created c.new-writer.ensures c.in_ok-write_upserted.ensures c.finish.ensures
