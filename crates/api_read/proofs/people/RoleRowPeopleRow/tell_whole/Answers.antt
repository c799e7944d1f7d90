use Rattle.std.proofs.Common.{◌∙◌, [], ◌∷◌, ◌++◌, List, ap}
use Rattle.std.specs.Prelude.{codes}
use Rattle.std.specs.Str.{chars}
use Rattle.base_json.specs.declared.tree.Json.{Json}
use Rattle.base_json.specs.declared.tree.Member.{Member}
use Rattle.base_json_tree.specs.Words.{member, object}
use Rattle.model_reads.specs.PeopleJson.{named_members}
use Rattle.api_read.proofs.CallerTold.{put}
use Rattle.api_read.proofs.people.RoleRowPeopleRow.tell_whole.Goals as goal

pub returns : goal.returns
unfolding chars
returns c =
    let row = c.args.self.now in
    c.finish.ensures ∙ ap (λ (ms : List Member). object ms) (put _ _ _ _ c.in_ok-members.ensures c.in_ok-put.ensures)
    ∙ ap (λ (v : Json). object (named_members row.id row.name ++ (member (codes "parent") v ∷ []))) c.in_ok-parent.ensures
