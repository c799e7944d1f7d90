use Rattle.std.proofs.Common.{◌++◌, ◌∙◌, List, ℕ, ap}
use Rattle.std.proofs.lemmas.Str.{IsUtf8-string_bytes}
use Rattle.std.specs.Prelude.{codes}
use Rattle.std.specs.Str.{chars}
use Rattle.std.specs.String.{string_bytes}
use Rattle.base_value.specs.Id.{print18}
use Rattle.api_read.proofs.RecordsTexts.{front_text, pushed, slash_text}
use Rattle.api_read.proofs.records.parts.url.Goals as goal

pub returns : goal.returns
returns c =
    let one = c.in_ok-string.string in
    let two = c.push_str.new.self in
    let three = c.push_str-2.new.self in
    let four = c.push_str-3.new.self in
    let object = c.args.object.now in
    c.from_string.ensures
    ∙ pushed (string_bytes three) (string_bytes four) c.as_str-2.result.now (print18 c.args.id.now) (IsUtf8-string_bytes three) c.in_ok-push_str-3.ensures.bytes (c.as_str-2.ensures.characters ∙ c.in_ok-id.ensures)
    ∙ ap (λ (cs : List ℕ). cs ++ print18 c.args.id.now)
    (pushed (string_bytes two) (string_bytes three) (codes "/") (codes "/") (IsUtf8-string_bytes two) c.in_ok-push_str-2.ensures.bytes slash_text
    ∙ ap (λ (cs : List ℕ). cs ++ codes "/")
    (pushed (string_bytes one) (string_bytes two) c.as_str.result.now object (IsUtf8-string_bytes one) c.in_ok-push_str.ensures.bytes c.as_str.ensures.characters
    ∙ ap (λ (cs : List ℕ). cs ++ object) (ap chars c.in_ok-string.ensures.ok ∙ front_text)))
