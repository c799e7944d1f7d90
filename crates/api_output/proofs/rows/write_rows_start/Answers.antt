use Rattle.api_output.proofs.Bodies.{front_written}
use Rattle.api_output.proofs.Written.{on_ok}
use Rattle.api_output.proofs.rows.write_rows_start.Goals as goal

pub returns : goal.returns
returns c =
    on_ok c.write_mark-4.result _ _
    (front_written c.args.writer.now c.write_mark.new.writer c.write_count_member.new.writer c.write_mark-2.new.writer c.write_truth_member.new.writer c.write_mark-3.new.writer c.write_name.new.writer c.write_mark-4.new.writer
    c.args.count c.in_ok-write_mark.ensures c.in_ok-write_count_member.ensures c.in_ok-write_mark-2.ensures c.in_ok-write_truth_member.ensures c.in_ok-write_mark-3.ensures c.in_ok-write_name.ensures) c.write_mark-4.ensures
