use Rattle.std.proofs.Common.{◌≡◌, Option, subst, sym, ◌∙◌, ap}
use Rattle.std.specs.Str.{chars}
use Rattle.base_json.specs.Outcomes.{Gives}
use Rattle.base_json.specs.Reading.{text, value_in}
use Rattle.base_json.specs.declared.tree.Json.{Json}
use Rattle.base_json.proofs.Texts.{no_value, value_of, read_by, spelled_of, only_by}
use Rattle.base_json.proofs.reader.read.Goals as goal

pub returns-in-Ok-clause-value : goal.returns-in-Ok-clause-value
returns-in-Ok-clause-value c =
    let is : text (chars c.in-Ok.text.now) ≡ value_in c.args.bytes.now = ap (λ bs. text (chars bs)) c.in-Ok.ensures.cases.0 ∙ sym (value_of c.args.bytes.now c.in-Ok.ensures.cases.1) in
    subst (λ (o : Option Json). Gives (λ (v : Json). v) c.text_value.result o) is c.text_value.ensures

pub returns-in-Ok-clause-spelled : goal.returns-in-Ok-clause-spelled
returns-in-Ok-clause-spelled c =
    let is : text (chars c.in-Ok.text.now) ≡ text (chars c.args.bytes.now) = ap (λ bs. text (chars bs)) c.in-Ok.ensures.cases.0 in
    spelled_of c.text_value.result c.args.bytes.now c.in-Ok.ensures.cases.1
    (subst (λ (o : Option Json). Gives (λ (v : Json). v) c.text_value.result o) is c.text_value.ensures)

pub returns-in-Ok-clause-only : goal.returns-in-Ok-clause-only
returns-in-Ok-clause-only c = λ v h.
    let is : text (chars c.in-Ok.text.now) ≡ text (chars c.args.bytes.now) = ap (λ bs. text (chars bs)) c.in-Ok.ensures.cases.0 in
    only_by c.text_value.result (text (chars c.args.bytes.now)) v
    (subst (λ (o : Option Json). Gives (λ (v : Json). v) c.text_value.result o) is c.text_value.ensures) (read_by c.args.bytes.now v h).1

pub returns-in-Err-clause-value : goal.returns-in-Err-clause-value
returns-in-Err-clause-value c = no_value c.args.bytes.now c.in-Err.ensures.cases.0
