use Rattle.std.specs.Str.{chars}
use Rattle.std.specs.String.{string_bytes}
use Rattle.base_json.proofs.Plain.{quoted_all}
use Rattle.base_json.proofs.printing.push_quoted.Goals as goal

pub returns-clause-ok : goal.returns-clause-ok
returns-clause-ok c =
    quoted_all (string_bytes c.args.out.now) (string_bytes c.push.new.self) (string_bytes c.push_content.new.out) (string_bytes c.push-2.new.self) (chars c.args.value.now)
    c.in_ok-push.ensures.bytes c.in_ok-push_content.ensures.ok c.in_ok-push-2.ensures.bytes
