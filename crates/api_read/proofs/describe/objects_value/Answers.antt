use Rattle.std.proofs.Common.{◌∙◌, [], ◌∷◌, List, ap}
use Rattle.std.specs.Prelude.{codes}
use Rattle.std.specs.Str.{chars}
use Rattle.base_json.specs.declared.tree.Member.{Member}
use Rattle.base_json_tree.specs.Words.{member, number, object, text}
use Rattle.api_read.proofs.CallerTold.{put}
use Rattle.api_read.proofs.describe.objects_value.Goals as goal

pub returns : goal.returns
unfolding chars
returns c =
    let all = put _ _ _ _ (put _ _ _ _ (put _ _ _ _ c.new-members.ensures c.in_ok-text.ensures) c.in_ok-number.ensures) c.in_ok-put.ensures in
    c.finish.ensures ∙ ap (λ (ms : List Member). object ms) all
    ∙ (λ i. object
    (member (codes "encoding") (text (codes "UTF-8"))
    ∷ member (codes "maxBatchSize") (number 1)
    ∷ member (codes "sobjects") (c.in_ok-summaries.ensures i)
    ∷ []))
