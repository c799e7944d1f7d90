use Rattle.std.proofs.Common.{◌++◌, ◌∙◌, ap, sym}
use Rattle.std.specs.List.{flat_map}
use Rattle.std.proofs.lemmas.Iterator.{YieldsList-from_chars}
use Rattle.std.proofs.lemmas.Iterator.Consumers.{YieldsList-end}
use Rattle.soql_printer.specs.Printing.{printed_character}
use Rattle.std.proofs.lemmas.List.{map-id}
use Rattle.soql_printer.proofs.values.characters.Goals as goal

pub returns : goal.returns
returns c =
    let t = YieldsList-end (YieldsList-from_chars c.as_str.result.now c.as_str.utf8 cc) c.characters.yielded _ c.characters.yielded_by _ _ c.in-None.is c.next.ensures.steps in
    c.characters.invariant ∙ ap (λ cs. c.args.out.now ++ flat_map printed_character cs) (sym (map-id c.characters.yielded) ∙ t.0 ∙ c.as_str.ensures.characters)
