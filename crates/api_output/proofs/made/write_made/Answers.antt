use Rattle.model.specs.Replies.{made_members}
use Rattle.api_output.proofs.Written.{in_object, on_ok}
use Rattle.api_output.proofs.made.write_made.Goals as goal

pub returns : goal.returns
returns c =
    on_ok c.write_mark-2.result _ _
    (in_object c.args.writer.now c.write_mark.new.writer c.write_members.new.writer c.write_mark-2.new.writer (made_members c.args.id.now) c.in_ok-write_mark.ensures c.in_ok-write_members.ensures) c.write_mark-2.ensures
