use Rattle.std.proofs.Common.{◌≡◌, ◌∙◌, [], ◌∷◌, ◌++◌, List, ap, ap₂, false, map}
use Rattle.std.specs.Prelude.{codes}
use Rattle.std.specs.Str.{chars}
use Rattle.base_json.specs.declared.tree.Json.{Json}
use Rattle.model_reads.specs.DescribeJson.{field_json, owner_described, standard}
use Rattle.schema_rules.specs.Objects.{object_of_layout}
use Rattle.api_read.specs.inner.DescribedLayouts.{later_described}
use Rattle.api_read.proofs.DescribedFields.{standard_are}
use Rattle.api_read.proofs.describe.fields.standard_fields.Goals as goal

pub returns : goal.returns
unfolding chars
returns c =
    let o = object_of_layout c.args.layout.now in
    let one : c.push.new.self ≡ field_json (standard (codes "Id") (codes "id") 18 false false false) ∷ [] =
    c.in_ok-push.ensures.ok ∙ ap₂ (λ (xs : List Json) (x : Json). xs ++ x ∷ []) c.new-all.ensures c.in_ok-standard.ensures in
    let two : c.append.new.self ≡ c.push.new.self ++ map field_json (owner_described o) =
    c.in_ok-append.ensures ∙ ap (λ (xs : List Json). c.push.new.self ++ xs) c.in_ok-owner.ensures in
    let three : c.append-2.new.self ≡ (c.push.new.self ++ map field_json (owner_described o)) ++ map field_json later_described =
    c.in_ok-append-2.ensures ∙ ap₂ (λ (xs ys : List Json). xs ++ ys) two c.in_ok-later.ensures in
    standard_are o c.push.new.self c.append-2.new.self one three
