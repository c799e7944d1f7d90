use Rattle.api_output.proofs.Written.{no_errors_written, on_ok}
use Rattle.api_output.proofs.made.write_no_errors.Goals as goal

pub returns : goal.returns
returns c =
    on_ok c.write_mark-2.result _ _
    (no_errors_written c.args.writer.now c.write_name.new.writer c.write_mark.new.writer c.write_mark-2.new.writer c.in_ok-write_name.ensures c.in_ok-write_mark.ensures) c.write_mark-2.ensures
