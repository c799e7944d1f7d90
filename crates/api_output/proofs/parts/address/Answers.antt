use Rattle.std.proofs.Common.{◌++◌, ◌∙◌, ap, ap₂}
use Rattle.std.specs.Str.{chars}
use Rattle.std.specs.String.{string_bytes}
use Rattle.std.proofs.lemmas.Str.{IsUtf8-string_bytes, chars-append}
use Rattle.api_output.proofs.parts.address.Goals as goal

pub returns : goal.returns
returns c =
    c.from_string.ensures ∙ ap chars c.in_ok-push_str.ensures.bytes ∙ chars-append (string_bytes c.in_ok-text.text) c.as_str.result.now (IsUtf8-string_bytes c.in_ok-text.text)
    ∙ ap₂ ◌++◌ c.in_ok-text.ensures (c.as_str.ensures.characters ∙ c.in_ok-id.ensures)
