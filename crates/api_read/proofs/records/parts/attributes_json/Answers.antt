use Rattle.std.proofs.Common.{◌∙◌, [], ◌∷◌, List, ap}
use Rattle.std.specs.Prelude.{codes}
use Rattle.std.specs.Str.{chars}
use Rattle.base_json.specs.declared.tree.Member.{Member}
use Rattle.base_json_tree.specs.Words.{member, object, text}
use Rattle.api_read.proofs.RecordsTexts.{put}
use Rattle.api_read.proofs.records.parts.attributes_json.Goals as goal

pub returns : goal.returns
unfolding chars
returns c =
    let all = put _ _ _ _ (put _ _ _ _ (put _ _ _ _ c.new-members.ensures c.in_ok-text.ensures) c.in_ok-text-2.ensures) c.in_ok-text-3.ensures in
    c.finish.ensures ∙ ap (λ (ms : List Member). object ms) all
    ∙ (λ i. object (member (codes "type") (text (c.as_str.ensures.characters i)) ∷ member (codes "url") (text ((c.as_str-2.ensures.characters ∙ c.in_ok-address.ensures) i)) ∷ member (codes "level") (text (c.level_name.ensures i)) ∷ []))
