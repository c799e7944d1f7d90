use Rattle.std.proofs.Common.{◌∙◌, List, ap}
use Rattle.std.specs.Str.{chars}
use Rattle.base_json.specs.declared.tree.Member.{Member}
use Rattle.base_json_tree.specs.Words.{object}
use Rattle.api_read.proofs.CallerTold.{put}
use Rattle.api_read.proofs.objects.rule_texts.Goals as goal

pub returns : goal.returns
unfolding chars
returns c =
    let all = put _ _ _ _ (put _ _ _ _ (put _ _ _ _ (put _ _ _ _ c.new-members.ensures c.in_ok-text.ensures) c.in_ok-text-2.ensures) c.in_ok-text-3.ensures) c.in_ok-text-4.ensures in
    c.finish.ensures ∙ ap (λ (ms : List Member). object ms) all
