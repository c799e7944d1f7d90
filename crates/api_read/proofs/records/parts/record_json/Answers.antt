use Rattle.std.proofs.Common.{◌∙◌, [], ◌∷◌, ◌++◌, List, ap, map}
use Rattle.std.specs.Prelude.{codes}
use Rattle.std.specs.Str.{chars}
use Rattle.base_json.specs.declared.tree.Json.{Json}
use Rattle.base_json.specs.declared.tree.Member.{Member}
use Rattle.base_json_tree.specs.Words.{member, object}
use Rattle.api_read.specs.inner.RecordParts.{site_member}
use Rattle.api_read.proofs.RecordsTexts.{put}
use Rattle.api_read.proofs.records.parts.record_json.Goals as goal

pub returns : goal.returns
unfolding chars
returns c =
    let fields = map (site_member c.args.layout.now c.args.item.now) c.args.sites.now in
    let first = put _ _ _ _ c.new-members.ensures c.in_ok-put.ensures in
    c.finish.ensures
    ∙ ap (λ (ms : List Member). object ms) (c.in_ok-put_sites.ensures ∙ ap (λ (ms : List Member). ms ++ fields) first)
    ∙ ap (λ (a : Json). object (member (codes "attributes") a ∷ fields)) c.in_ok-attributes.ensures
