use Rattle.std.proofs.Common.{◌∙◌, List, ap}
use Rattle.std.specs.Str.{chars}
use Rattle.base_json.specs.declared.tree.Member.{Member}
use Rattle.base_json_tree.specs.Words.{object}
use Rattle.api_read.proofs.CallerTold.{put}
use Rattle.api_read.proofs.caller.told_limits.Goals as goal

pub returns : goal.returns
unfolding chars
returns c =
    let three = put _ _ _ _ (put _ _ _ _ (put _ _ _ _ c.new-members.ensures c.in_ok-put_limit.ensures) c.in_ok-put_limit-2.ensures) c.in_ok-put_limit-3.ensures in
    let all = put _ _ _ _ (put _ _ _ _ (put _ _ _ _ three c.in_ok-put_limit-4.ensures) c.in_ok-put_limit-5.ensures) c.in_ok-put_limit-6.ensures in
    c.finish.ensures ∙ ap (λ (ms : List Member). object ms) all
