use Rattle.std.specs.Str.{chars}
use Rattle.api_output.proofs.Changing.{body_of_state}
use Rattle.api_output.proofs.states.state_body.Goals as goal

pub returns : goal.returns
returns c t j is =
    body_of_state c.new-writer.result c.write_state.new.writer c.finish.result (chars c.args.object.now) (chars c.args.field.now) c.args.phase c.args.outcome c.args.failed
    c.new-writer.ensures c.in_ok-write_state.ensures c.finish.ensures t j is
