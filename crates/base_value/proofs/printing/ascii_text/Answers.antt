use Rattle.std.proofs.Common.{◌∙◌}
use Rattle.std.specs.String.{string_bytes}
use Rattle.std.proofs.lemmas.Str.{chars-IsAscii}
use Rattle.base_value.proofs.printing.ascii_text.Goals as goal

pub returns : goal.returns
returns c = c.from_string.ensures ∙ chars-IsAscii (string_bytes c.args.string) c.requires
