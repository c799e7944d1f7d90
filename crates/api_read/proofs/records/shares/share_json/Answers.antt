use Rattle.std.proofs.Common.{◌∙◌, [], ◌∷◌, List, ap}
use Rattle.std.specs.Prelude.{codes}
use Rattle.std.specs.Str.{chars}
use Rattle.base_json.specs.declared.tree.Member.{Member}
use Rattle.base_json_tree.specs.Words.{member, object, text}
use Rattle.api_read.proofs.RecordsTexts.{put}
use Rattle.api_read.proofs.records.shares.share_json.Goals as goal

pub returns : goal.returns
unfolding chars
returns c =
    let all = put _ _ _ _ (put _ _ _ _ c.new-members.ensures c.in_ok-text.ensures) c.in_ok-text-2.ensures in
    c.finish.ensures ∙ ap (λ (ms : List Member). object ms) all
    ∙ (λ i. object (member (codes "to") (text ((c.as_str.ensures.characters ∙ c.in_ok-to.ensures) i)) ∷ member (codes "level") (text (c.level_name.ensures i)) ∷ []))
