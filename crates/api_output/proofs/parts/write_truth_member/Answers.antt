use Rattle.std.specs.Str.{chars}
use Rattle.base_json.specs.Printing.{printed_truth}
use Rattle.api_output.proofs.Written.{member, on_ok}
use Rattle.api_output.proofs.parts.write_truth_member.Goals as goal

pub returns : goal.returns
returns c =
    on_ok c.write_truth.result _ _
    (λ e. member c.args.writer.now c.write_name.new.writer c.write_truth.new.writer (chars c.args.name.now) (printed_truth c.args.truth) c.in_ok-write_name.ensures e) c.write_truth.ensures
