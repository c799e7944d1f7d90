use Rattle.std.proofs.Common.{◌∙◌, [], ◌∷◌, List, ap}
use Rattle.std.specs.Prelude.{codes}
use Rattle.std.specs.Str.{chars}
use Rattle.base_json.specs.declared.tree.Json.TheVariants as json
use Rattle.base_json.specs.declared.tree.Member.{Member}
use Rattle.base_json_tree.specs.Words.{member, object}
use Rattle.api_read.proofs.RecordsTexts.{put}
use Rattle.api_read.proofs.records.shares.rows_json.Goals as goal

pub returns : goal.returns
unfolding chars
returns c =
    c.finish.ensures ∙ ap (λ (ms : List Member). object ms) (put _ _ _ _ c.new-members.ensures c.in_ok-put.ensures)
    ∙ (λ i. object (member (codes "shares") (json.List (c.in_ok-items.ensures i)) ∷ []))
