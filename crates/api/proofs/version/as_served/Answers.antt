use Rattle.std.proofs.Common.{List, ℕ, ◌++◌, ap, sym, ◌∙◌}
use Rattle.std.specs.Str.{chars}
use Rattle.api.proofs.Versions.{as_served-chars}
use Rattle.api.proofs.version.as_served.Goals as goal

pub returns-in_default-clause-path : goal.returns-in_default-clause-path
returns-in_default-clause-path c = ap chars (sym c.in_default.ensures.served) ∙ as_served-chars c.args.path.now c.utf8.path

pub returns-clause-path : goal.returns-clause-path
returns-clause-path c =
    ap chars (c.in_ok-push_str.ensures.bytes ∙ ap (λ (t : List ℕ). t ++ c.in-Some.rest.now) c.in_ok-served.ensures.ok ∙ sym c.in-Some.ensures.served)
    ∙ as_served-chars c.args.path.now c.utf8.path
