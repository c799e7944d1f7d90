use Rattle.std.proofs.Common.{◌∙◌, ap, [], map}
use Rattle.api.specs.inner.Places.{added, pattern_of}
use Rattle.api.proofs.Tables.{made}
use Rattle.api.proofs.table.router.Goals as goal

pub returns : goal.returns
returns c =
    c.in_ok-add.ensures ∙ ap (λ rs. added rs (map pattern_of c.patterns.result)) c.new-router.ensures ∙ ap (added []) c.patterns.ensures ∙ made
