use Rattle.std.specs.Prelude.{codes}
use Rattle.std.specs.Str.{chars}
use Rattle.base_json_tree.specs.Words.{member, text}
use Rattle.model_reads.specs.CallerJson.{base}
use Rattle.api_read.proofs.CallerTold.{three_members}
use Rattle.api_read.proofs.caller.version_json.Goals as goal

pub returns : goal.returns
unfolding chars
returns c =
    three_members c.new-members.result c.text.new.self c.text-2.new.self c.text-3.new.self c.finish.result
    (member (codes "label") (text (codes "v59.0"))) (member (codes "url") (text base)) (member (codes "version") (text (codes "59.0")))
    c.new-members.ensures c.in_ok-text.ensures c.in_ok-text-2.ensures c.in_ok-text-3.ensures c.finish.ensures
