use Rattle.std.proofs.Common.{◌++◌, ◌∙◌, List, ℕ, ap}
use Rattle.std.specs.Str.{chars}
use Rattle.std.specs.String.{string_bytes}
use Rattle.std.proofs.lemmas.Str.{IsUtf8-string_bytes, chars-append}
use Rattle.api_read.proofs.describe.texts.joined.Goals as goal

pub returns : goal.returns
returns c =
    c.from_string.ensures ∙ ap chars c.in_ok-push_str.ensures.bytes ∙ chars-append (string_bytes c.in_ok-text.text) c.args.behind.now (IsUtf8-string_bytes c.in_ok-text.text)
    ∙ ap (λ (text : List ℕ). chars text ++ chars c.args.behind.now) c.in_ok-text.ensures.ok
