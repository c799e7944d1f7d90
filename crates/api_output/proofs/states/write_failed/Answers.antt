use Rattle.std.specs.Prelude.{codes}
use Rattle.std.specs.Str.{chars}
use Rattle.api_output.specs.inner.States.{record_json}
use Rattle.api_output.proofs.Written.{member, on_ok}
use Rattle.api_output.proofs.states.write_failed.Goals as goal

pub returns : goal.returns
unfolding chars
returns c =
    on_ok c.write_id.result _ _
    (member c.args.writer.now c.write_name.new.writer c.write_id.new.writer (codes "record") (record_json c.args.failed) c.in_ok-write_name.ensures) c.write_id.ensures
