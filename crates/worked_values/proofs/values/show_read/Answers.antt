use Rattle.std.specs.Str.{chars}
use Rattle.std.proofs.lemmas.Str.{scalars-chars}
use Rattle.worked_values.proofs.values.show_read.Goals as goal

pub print_value-printed-requires : goal.print_value-printed-requires
print_value-printed-requires c =
    c.value_laws.ensures.printable c.args.kind.now c.in-Ok.value
    (c.value_laws.ensures.read c.args.kind.now (chars c.args.text.now) c.in-Ok.value (scalars-chars c.args.text.now c.utf8.text) c.in-Ok.ensures)
