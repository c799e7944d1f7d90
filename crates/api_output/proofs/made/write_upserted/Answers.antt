use Rattle.api_output.proofs.Written.{on_ok, upserted_written}
use Rattle.api_output.proofs.made.write_upserted.Goals as goal

pub returns : goal.returns
returns c =
    on_ok c.write_mark-3.result _ _
    (upserted_written c.args.writer.now c.write_mark.new.writer c.write_members.new.writer c.write_mark-2.new.writer c.write_truth_member.new.writer c.write_mark-3.new.writer c.args.id.now c.args.created
    c.in_ok-write_mark.ensures c.in_ok-write_members.ensures c.in_ok-write_mark-2.ensures c.in_ok-write_truth_member.ensures) c.write_mark-3.ensures
