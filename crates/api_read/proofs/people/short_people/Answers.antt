use Rattle.std.proofs.Common.{◌∙◌, List, ap}
use Rattle.std.specs.Str.{chars}
use Rattle.base_json.specs.declared.tree.Member.{Member}
use Rattle.base_json_tree.specs.Words.{object}
use Rattle.api_read.proofs.CallerTold.{put}
use Rattle.api_read.proofs.PeopleTold.{people_members}
use Rattle.api_read.proofs.people.short_people.Goals as goal

pub returns : goal.returns
unfolding chars
returns c =
    let all = put _ _ _ _ (put _ _ _ _ (put _ _ _ _ c.new-members.ensures c.in_ok-put.ensures) c.in_ok-put-2.ensures) c.in_ok-put-3.ensures in
    c.finish.ensures ∙ ap (λ (ms : List Member). object ms) all
    ∙ people_members c.args.users.now c.args.roles.now c.args.groups.now c.in_ok-users.users c.in_ok-roles.roles c.in_ok-groups.groups c.in_ok-users.ensures c.in_ok-roles.ensures c.in_ok-groups.ensures
