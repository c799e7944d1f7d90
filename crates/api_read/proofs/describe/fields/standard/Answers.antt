use Rattle.std.proofs.Common.{List, ap, refl}
use Rattle.std.specs.Str.{chars}
use Rattle.base_json.specs.declared.tree.Json.{Json}
use Rattle.base_json.specs.declared.tree.Json.TheVariants as json
use Rattle.base_json_tree.specs.Words.{list}
use Rattle.model_reads.specs.DescribeJson.{standard}
use Rattle.api_read.proofs.DescribedMembers.{field_value}
use Rattle.api_read.proofs.describe.fields.standard.Goals as goal

pub returns : goal.returns
unfolding chars
returns c =
    field_value (standard (chars c.args.name.now) (chars c.args.kind.now) c.args.characters c.args.nillable c.args.is_name c.args.writable)
    c.in_ok-members.members c.put_flags.new.members c.put.new.self c.put-2.new.self c.put-3.new.self c.finish.result (list c.new.result) json.Null (list c.new-2.result)
    c.in_ok-members.ensures c.in_ok-put_flags.ensures c.in_ok-put.ensures c.in_ok-put-2.ensures c.in_ok-put-3.ensures c.finish.ensures
    (ap (λ (all : List Json). list all) c.new.ensures) refl (ap (λ (all : List Json). list all) c.new-2.ensures)
