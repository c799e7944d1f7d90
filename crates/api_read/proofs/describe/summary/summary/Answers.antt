use Rattle.std.proofs.Common.{◌≡◌, ◌∙◌, [], ◌∷◌, ◌++◌, List, ap}
use Rattle.std.specs.Prelude.{codes}
use Rattle.std.specs.Str.{chars}
use Rattle.base_json.specs.declared.tree.Member.{Member}
use Rattle.base_json_tree.specs.Words.{member, text}
use Rattle.model.specs.Objects.{record_prefix}
use Rattle.model_reads.specs.DescribeJson.{urls_json}
use Rattle.api_read.specs.inner.DescribedLayouts.{rights_members}
use Rattle.api_read.proofs.describe.summary.summary.Goals as goal

pub returns : goal.returns
unfolding chars
returns c =
    let l = c.args.layout.now in
    let names : List Member = member (codes "name") (text l.name) ∷ member (codes "label") (text l.name) ∷ member (codes "keyPrefix") (text (record_prefix l.object)) ∷ [] in
    let rights : c.put_rights.new.members ≡ names ++ rights_members = c.in_ok-put_rights.ensures ∙ ap (λ (ms : List Member). ms ++ rights_members) c.in_ok-members.ensures in
    let url : c.in_ok-urls.field-0 ≡ urls_json l.name = c.in_ok-urls.ensures ∙ ap urls_json c.as_str.ensures.characters in
    c.in_ok-put.ensures ∙ (λ i. rights i ++ member (codes "urls") (url i) ∷ [])
