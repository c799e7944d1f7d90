use Rattle.std.proofs.Common.{◌++◌, ◌∙◌, List, ℕ, ap}
use Rattle.std.specs.Prelude.{codes}
use Rattle.std.specs.Str.{chars}
use Rattle.api_output.proofs.Written.{addressed}
use Rattle.api_output.proofs.parts.addresses.Goals as goal

pub returns : goal.returns
returns c =
    let two = c.in_ok-push_str.ensures.bytes ∙ ap (λ (t : List ℕ). t ++ c.args.object.now) c.in_ok-text.ensures.ok in
    let three = c.in_ok-push_str-2.ensures.bytes ∙ ap (λ (t : List ℕ). t ++ codes "/") two in
    ap chars three ∙ addressed c.args.object.now c.utf8.object
