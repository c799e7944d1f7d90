use Rattle.std.specs.Str.{chars}
use Rattle.api_output.proofs.Changing.{state_written}
use Rattle.api_output.proofs.Written.{on_ok}
use Rattle.api_output.proofs.states.write_state.Goals as goal

pub returns : goal.returns
returns c =
    on_ok c.write_mark-3.result _ _
    (state_written c.args.writer.now c.write_mark.new.writer c.write_place.new.writer c.write_mark-2.new.writer c.write_progress.new.writer c.write_mark-3.new.writer
    (chars c.args.object.now) (chars c.args.field.now) c.args.phase c.args.outcome c.args.failed
    c.in_ok-write_mark.ensures c.in_ok-write_place.ensures c.in_ok-write_mark-2.ensures c.in_ok-write_progress.ensures) c.write_mark-3.ensures
