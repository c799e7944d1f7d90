use Rattle.std.specs.Str.{chars}
use Rattle.std.specs.Fmt.{decimal}
use Rattle.api_output.proofs.Written.{member, on_ok}
use Rattle.api_output.proofs.parts.write_count_member.Goals as goal

pub returns : goal.returns
returns c =
    on_ok c.write_count.result _ _
    (λ e. member c.args.writer.now c.write_name.new.writer c.write_count.new.writer (chars c.args.name.now) (decimal c.args.count) c.in_ok-write_name.ensures e) c.write_count.ensures
