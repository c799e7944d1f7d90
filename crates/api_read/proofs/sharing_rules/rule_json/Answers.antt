use Rattle.std.proofs.Common.{◌∙◌, List, ap}
use Rattle.std.specs.Str.{chars}
use Rattle.base_json.specs.declared.tree.Member.{Member}
use Rattle.base_json_tree.specs.Words.{object}
use Rattle.api_read.proofs.CallerTold.{put}
use Rattle.api_read.proofs.RulesTold.{rule_members}
use Rattle.api_read.proofs.sharing_rules.rule_json.Goals as goal

pub returns : goal.returns
unfolding chars
returns c =
    let four = put _ _ _ _ (put _ _ _ _ (put _ _ _ _ (put _ _ _ _ c.new-members.ensures c.in_ok-text.ensures) c.in_ok-text-2.ensures) c.in_ok-put_source.ensures) c.in_ok-put.ensures in
    let all = put _ _ _ _ (put _ _ _ _ (put _ _ _ _ four c.in_ok-text-3.ensures) c.in_ok-text-4.ensures) c.in_ok-put-2.ensures in
    c.finish.ensures ∙ ap (λ (ms : List Member). object ms) all
    ∙ rule_members c.args.objects.now c.args.row.now (chars c.name_at.result.now) (chars c.as_str.result.now) (chars c.level_name.result.now) (chars c.state_name.result.now) c.in_ok-to.to c.in_ok-cursor.cursor
    c.name_at.ensures c.as_str.ensures.characters c.in_ok-to.ensures c.level_name.ensures c.state_name.ensures c.in_ok-cursor.ensures
