use Rattle.std.proofs.Common.{◌∙◌, [], ◌∷◌, List, ap}
use Rattle.std.specs.Prelude.{codes}
use Rattle.std.specs.Str.{chars}
use Rattle.base_json.specs.declared.tree.Member.{Member}
use Rattle.base_json_tree.specs.Words.{member, object, text, truth}
use Rattle.api_read.proofs.CallerTold.{put}
use Rattle.api_read.proofs.describe.children.child.Goals as goal

pub returns : goal.returns
unfolding chars
returns c =
    let all = put _ _ _ _ (put _ _ _ _ (put _ _ _ _ (put _ _ _ _ (put _ _ _ _ c.new-members.ensures c.in_ok-text.ensures) c.in_ok-text-2.ensures) c.in_ok-put.ensures) c.in_ok-truth.ensures) c.in_ok-truth-2.ensures in
    c.finish.ensures ∙ ap (λ (ms : List Member). object ms) all
    ∙ (λ i. object
    (member (codes "childSObject") (text (chars c.args.object.now))
    ∷ member (codes "field") (text (c.as_str.ensures.characters i))
    ∷ member (codes "relationshipName") (c.in_ok-or_null_text.ensures i)
    ∷ member (codes "cascadeDelete") (truth (c.is_master.ensures i))
    ∷ member (codes "restrictedDelete") (truth (c.is_restricted.ensures i))
    ∷ []))
