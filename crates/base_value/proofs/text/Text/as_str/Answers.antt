use Rattle.std.proofs.Common.{◌≡◌, ap, sym, ◌∙◌}
use Rattle.std.specs.Str.{chars, encode_utf8_all}
use Rattle.std.proofs.lemmas.Str.{encodes-chars}
use Rattle.base_value.proofs.text.Text.as_str.Goals as goal

pub returns-clause-bytes : goal.returns-clause-bytes
returns-clause-bytes c =
    let characters : chars c.as_str.result.now ≡ c.args.self.now = ap chars c.as_str.ensures.value ∙ c.self.view_is in
    sym (encodes-chars c.as_str.result.now c.as_str.utf8) ∙ ap encode_utf8_all characters
