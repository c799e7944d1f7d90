use Rattle.std.proofs.Common.{◌≡◌, ◌∙◌, ap, refl, true}
use Rattle.std.proofs.lemmas.Str.{scalars-chars}
use Rattle.std.specs.Str.{all_scalars}
use Rattle.cmd_demo.proofs.items.given_amount.Goals as goal

pub returns-clause-spelled : goal.returns-clause-spelled
returns-clause-spelled c =
    let spelled : all_scalars c.in_ok-text.text ≡ true = ap all_scalars c.in_ok-text.ensures ∙ scalars-chars c.as_str.result.now c.as_str.utf8 in
    rw (c.in_ok-push.ensures.items, c.new-given.ensures.items, spelled) refl
