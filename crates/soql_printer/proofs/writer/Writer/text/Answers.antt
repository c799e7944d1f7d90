use Rattle.std.specs.String.{string_bytes}
use Rattle.std.proofs.lemmas.Str.{IsUtf8-string_bytes}
use Rattle.soql_printer.proofs.Grown.{grown}
use Rattle.soql_printer.proofs.writer.Writer.text.Goals as goal

pub returns : goal.returns
returns c =
    grown c.push_str.result (string_bytes c.self.inside.text) (string_bytes c.push_str.new.self) c.as_str.result.now c.args.self.now c.args.text.now
    (IsUtf8-string_bytes c.self.inside.text) c.push_str.ensures.bytes c.self.view_is c.as_str.ensures.characters
