use Rattle.std.proofs.Common.{◌≡◌, length}
use Rattle.std.specs.String.{string_bytes}
use Rattle.std.proofs.lemmas.Str.{IsUtf8-string_bytes}
use Rattle.base_json.proofs.Plain.{may_cut}
use Rattle.base_json.proofs.writer.Writer.text.Goals as goal

pub truncate-requires : goal.truncate-requires
truncate-requires c = λ within.
    let view = c.self.view_is in
    let measured = c.len-start.ensures in
    let start : c.len-start.result ≡ length (string_bytes c.self.inside.out) = cc in
    may_cut (string_bytes c.self.inside.out) (string_bytes c.push_quoted.new.out) c.len-start.result start
    (IsUtf8-string_bytes c.self.inside.out) (IsUtf8-string_bytes c.push_quoted.new.out) c.push_quoted.ensures.front
