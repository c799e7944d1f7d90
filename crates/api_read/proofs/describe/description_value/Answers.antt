use Rattle.std.proofs.Common.{◌≡◌, ◌∙◌, [], ◌∷◌, ◌++◌, ap}
use Rattle.std.specs.Prelude.{codes}
use Rattle.std.specs.Str.{chars}
use Rattle.base_json_tree.specs.Words.{list, member, object}
use Rattle.api_read.specs.inner.DescribedLayouts.{children_by, fields_by, summary_by}
use Rattle.api_read.proofs.describe.description_value.Goals as goal

pub returns : goal.returns
unfolding chars
returns c =
    let l = c.args.layout.now in
    let ls = c.args.layouts.now in
    let front : c.in_ok-members.members ≡ summary_by l = c.in_ok-members.ensures in
    let all : c.in_ok-fields.field-0 ≡ list (fields_by ls l) = c.in_ok-fields.ensures in
    let behind : c.in_ok-children.field-0 ≡ list (children_by l.object ls) = c.in_ok-children.ensures in
    let first : c.put.new.self ≡ summary_by l ++ member (codes "fields") (list (fields_by ls l)) ∷ [] =
    c.in_ok-put.ensures ∙ (λ i. front i ++ member (codes "fields") (all i) ∷ []) in
    let second : c.put-2.new.self ≡ (summary_by l ++ member (codes "fields") (list (fields_by ls l)) ∷ []) ++ member (codes "childRelationships") (list (children_by l.object ls)) ∷ [] =
    c.in_ok-put-2.ensures ∙ (λ i. first i ++ member (codes "childRelationships") (behind i) ∷ []) in
    c.finish.ensures ∙ ap object second
