use Rattle.std.proofs.Common.{◌++◌, ◌∙◌, List, ℕ, ap}
use Rattle.std.proofs.lemmas.Str.{IsUtf8-string_bytes}
use Rattle.std.specs.Str.{chars}
use Rattle.std.specs.String.{string_bytes}
use Rattle.base_value.specs.Id.{print18}
use Rattle.base_value.specs.Principals.{principal_id}
use Rattle.api_read.proofs.RecordsTexts.{pushed}
use Rattle.api_read.proofs.records.shares.principal_text.Goals as goal

pub returns : goal.returns
returns c =
    let one = c.in_ok-string.string in
    let two = c.push_str.new.self in
    let id = print18 (principal_id c.args.to.now) in
    c.from_string.ensures
    ∙ pushed (string_bytes one) (string_bytes two) c.as_str.result.now id (IsUtf8-string_bytes one) c.in_ok-push_str.ensures.bytes (c.as_str.ensures.characters ∙ c.in_ok-id.ensures ∙ ap print18 c.id.ensures)
    ∙ ap (λ (cs : List ℕ). cs ++ id) (ap chars c.in_ok-string.ensures.ok ∙ c.kind_word.ensures)
