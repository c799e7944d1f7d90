use Rattle.std.proofs.Common.{◌∙◌, List, ap}
use Rattle.std.specs.Str.{chars}
use Rattle.base_json.specs.declared.tree.Member.{Member}
use Rattle.base_json_tree.specs.Words.{object}
use Rattle.api_read.proofs.CallerTold.{caller_members, put}
use Rattle.api_read.proofs.caller.told_caller.Goals as goal

pub returns : goal.returns
unfolding chars
returns c =
    let three = put _ _ _ _ (put _ _ _ _ (put _ _ _ _ c.new-members.ensures c.in_ok-id.ensures) c.in_ok-id-2.ensures) c.in_ok-id-3.ensures in
    let all = put _ _ _ _ (put _ _ _ _ (put _ _ _ _ (put _ _ _ _ three c.in_ok-text.ensures) c.in_ok-truth.ensures) c.in_ok-truth-2.ensures) c.in_ok-put.ensures in
    c.finish.ensures ∙ ap (λ (ms : List Member). object ms) all
    ∙ caller_members c.args.org c.args.row.now c.org_id.result (chars c.as_str.result.now) c.in_ok-role.role c.org_id.ensures c.as_str.ensures.characters c.in_ok-role.ensures
