use Rattle.std.proofs.Common.{◌∙◌, ap}
use Rattle.std.specs.Prelude.{bytes_eq}
use Rattle.std.specs.Str.{chars}
use Rattle.std.specs.Cmp.Lexicographic.{nat_list_eq_equiv}
use Rattle.base_value.proofs.Texts.{same_text}
use Rattle.base_value.proofs.text.is_text.Goals as goal

pub returns-clause-same : goal.returns-clause-same
returns-clause-same c =
    c.eq.ensures
    ∙ same_text c.args.characters.now c.as_str.result.now c.utf8.characters c.as_str.utf8
    ∙ ap (bytes_eq (chars c.args.characters.now)) c.as_str.ensures.characters
    ∙ nat_list_eq_equiv.symm (chars c.args.characters.now) c.args.text.now

pub returns-clause-turned : goal.returns-clause-turned
returns-clause-turned c =
    c.eq.ensures
    ∙ same_text c.args.characters.now c.as_str.result.now c.utf8.characters c.as_str.utf8
    ∙ ap (bytes_eq (chars c.args.characters.now)) c.as_str.ensures.characters
