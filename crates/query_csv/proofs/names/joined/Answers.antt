use Rattle.std.proofs.Common.{◌∙◌}
use Rattle.std.specs.String.{string_bytes}
use Rattle.std.proofs.lemmas.Str.{IsUtf8-string_bytes}
use Rattle.query_check.proofs.Spelled.{joined_text}
use Rattle.query_csv.proofs.names.joined.Goals as goal

pub returns : goal.returns
returns c =
    c.from_string.ensures
    ∙ joined_text (string_bytes c.in_ok-text.text) (string_bytes c.push_str.new.self) (string_bytes c.push_str-2.new.self) c.as_str.result.now c.as_str-2.result.now c.args.name.now c.args.more.now
    (IsUtf8-string_bytes c.in_ok-text.text) (IsUtf8-string_bytes c.push_str.new.self) c.in_ok-text.ensures.ok c.in_ok-push_str.ensures.bytes c.in_ok-push_str-2.ensures.bytes
    c.as_str.ensures.characters c.as_str-2.ensures.characters
