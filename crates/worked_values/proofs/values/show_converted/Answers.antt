use Rattle.std.proofs.Common.{◌≡◌, Bool, true, Option, Some, None, Ok, Err, sym, ◌∙◌}
use Rattle.std.specs.Option.{ok_or}
use Rattle.std.specs.Str.{chars}
use Rattle.std.proofs.lemmas.Str.{scalars-chars}
use Rattle.base_value.specs.Conversion.{convert}
use Rattle.worked_values.proofs.values.show_converted.Goals as goal

some_of : {X E : Type 0} (o : Option X) (e : E) (v : X) → ok_or o e ≡ Ok v → o ≡ Some v
some_of None e v h = absurd cc
some_of (Some x) e v h = cc

pub print_value-printed-requires : goal.print_value-printed-requires
print_value-printed-requires c =
    let from = c.args.from.now in
    let valid = c.value_laws.ensures.read from (chars c.args.text.now) c.in-Ok.old (scalars-chars c.args.text.now c.utf8.text) c.in-Ok.ensures in
    let some = some_of (convert c.args.to.now c.in-Ok.old) _ c.in-Ok-convert.new c.in-Ok-convert.ensures in
    c.value_laws.ensures.printable c.args.to.now c.in-Ok-convert.new
    (c.value_laws.ensures.converted from c.args.to.now c.in-Ok.old c.in-Ok-convert.new (sym c.is_type.ensures ∙ c.if-not-is_type.false) valid some)
