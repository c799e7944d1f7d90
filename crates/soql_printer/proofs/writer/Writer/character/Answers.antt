use Rattle.std.proofs.Common.{[], ◌∷◌, ◌∙◌, ap, refl, sym, append-nil}
use Rattle.std.specs.Char.{encode_utf8}
use Rattle.std.specs.Str.{chars}
use Rattle.std.specs.String.{string_bytes}
use Rattle.std.proofs.lemmas.Str.{IsUtf8-string_bytes, chars-encodes}
use Rattle.soql_printer.proofs.Grown.{grown}
use Rattle.soql_printer.proofs.writer.Writer.character.Goals as goal

pub returns : goal.returns
returns c =
    let one = ap chars (sym (append-nil (encode_utf8 c.args.c))) ∙ chars-encodes (c.args.c ∷ []) (rw c.ranges.c.0 refl) in
    grown c.push.result (string_bytes c.self.inside.text) (string_bytes c.push.new.self) (encode_utf8 c.args.c) c.args.self.now (c.args.c ∷ [])
    (IsUtf8-string_bytes c.self.inside.text) c.push.ensures.bytes c.self.view_is one
