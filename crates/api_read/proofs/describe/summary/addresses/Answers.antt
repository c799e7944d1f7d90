use Rattle.std.proofs.Common.{◌≡◌, ◌∙◌, List, [], ◌∷◌, ◌++◌, ap}
use Rattle.std.specs.Prelude.{codes}
use Rattle.std.specs.Str.{chars}
use Rattle.base_json.specs.declared.tree.Member.{Member}
use Rattle.base_json_tree.specs.Words.{member, object, text}
use Rattle.api_read.proofs.DescribedMembers.{put_behind}
use Rattle.api_read.proofs.describe.summary.addresses.Goals as goal

pub returns : goal.returns
unfolding chars
returns c =
    let one : List Member = member (codes "sobject") (text (chars c.args.object.now)) ∷ [] in
    let two : List Member = one ++ member (codes "describe") (text (chars c.args.describe.now)) ∷ [] in
    let first : c.text.new.self ≡ one = c.in_ok-text.ensures ∙ ap (λ (ms : List Member). ms ++ one) c.new-members.ensures in
    let second = put_behind [] c.text.new.self c.text-2.new.self one (member (codes "describe") (text (chars c.args.describe.now))) first c.in_ok-text-2.ensures in
    c.finish.ensures ∙ ap object (put_behind [] c.text-2.new.self c.text-3.new.self two (member (codes "rowTemplate") (text (chars c.args.row.now))) second c.in_ok-text-3.ensures)
