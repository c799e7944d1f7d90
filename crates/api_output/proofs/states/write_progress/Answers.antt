use Rattle.std.specs.Prelude.{codes}
use Rattle.model.specs.RowsJson.{member_json}
use Rattle.api_output.specs.inner.States.{outcome_member, phase_member, record_json}
use Rattle.api_output.proofs.Written.{on_ok, three}
use Rattle.api_output.proofs.states.write_progress.Goals as goal

pub returns : goal.returns
returns c =
    on_ok c.write_failed.result _ _
    (three c.args.writer.now c.write_phase.new.writer c.write_mark.new.writer c.write_outcome.new.writer c.write_mark-2.new.writer c.write_failed.new.writer
    (phase_member c.args.phase) (outcome_member c.args.outcome) (member_json (codes "record") (record_json c.args.failed))
    c.in_ok-write_phase.ensures c.in_ok-write_mark.ensures c.in_ok-write_outcome.ensures c.in_ok-write_mark-2.ensures) c.write_failed.ensures
