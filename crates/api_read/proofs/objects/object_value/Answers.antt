use Rattle.std.proofs.Common.{◌∙◌, [], ◌∷◌, List, ap}
use Rattle.std.specs.Prelude.{codes}
use Rattle.std.specs.Str.{chars}
use Rattle.base_json.specs.declared.tree.Member.{Member}
use Rattle.base_json_tree.specs.Words.{member, number, object, text, truth}
use Rattle.api_read.proofs.CallerTold.{put}
use Rattle.api_read.proofs.objects.object_value.Goals as goal

pub returns : goal.returns
unfolding chars
returns c =
    let all = put _ _ _ _ (put _ _ _ _ (put _ _ _ _ (put _ _ _ _ (put _ _ _ _ (put _ _ _ _ c.new-members.ensures c.in_ok-text.ensures) c.in_ok-text-2.ensures) c.in_ok-truth.ensures) c.in_ok-number.ensures) c.in_ok-number-2.ensures) c.in_ok-number-3.ensures in
    c.finish.ensures ∙ ap (λ (ms : List Member). object ms) all
    ∙ (λ i. object
    (member (codes "name") (text (c.as_str.ensures.characters i))
    ∷ member (codes "access") (text (c.access_name.ensures i))
    ∷ member (codes "hierarchy") (truth c.args.row.now.access.hierarchy)
    ∷ member (codes "records") (number (c.from.ensures i))
    ∷ member (codes "fields") (number (c.from-2.ensures i))
    ∷ member (codes "validationRules") (number (c.from-3.ensures i))
    ∷ []))
