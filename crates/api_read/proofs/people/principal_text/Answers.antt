use Rattle.std.proofs.Common.{◌++◌, ◌∙◌, ap, ap₂}
use Rattle.std.specs.Str.{chars}
use Rattle.std.specs.String.{string_bytes}
use Rattle.std.proofs.lemmas.Str.{IsUtf8-string_bytes, chars-append}
use Rattle.base_value.specs.Id.{print18}
use Rattle.api_read.proofs.people.principal_text.Goals as goal

pub returns : goal.returns
returns c =
    let text = c.in_ok-text.text in
    c.from_string.ensures ∙ ap chars c.in_ok-push_str.ensures.bytes ∙ chars-append (string_bytes text) c.as_str.result.now (IsUtf8-string_bytes text)
    ∙ ap₂ ◌++◌ (ap chars c.in_ok-text.ensures.ok ∙ c.kind_word.ensures) (c.as_str.ensures.characters ∙ c.in_ok-id.ensures ∙ ap print18 c.id.ensures)
