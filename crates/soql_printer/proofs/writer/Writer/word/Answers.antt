use Rattle.std.specs.String.{string_bytes}
use Rattle.std.proofs.lemmas.Str.{IsUtf8-string_bytes, chars-IsAscii}
use Rattle.soql_printer.proofs.Grown.{grown}
use Rattle.soql_printer.proofs.writer.Writer.word.Goals as goal

pub returns : goal.returns
returns c =
    grown c.push_str.result (string_bytes c.self.inside.text) (string_bytes c.push_str.new.self) c.args.word.now c.args.self.now c.args.word.now
    (IsUtf8-string_bytes c.self.inside.text) c.push_str.ensures.bytes c.self.view_is (chars-IsAscii c.args.word.now c.requires)
