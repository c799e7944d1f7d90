use Rattle.std.proofs.Common.{◌∙◌, ◌++◌, List, ℕ, ap, sym}
use Rattle.std.specs.Prelude.{codes}
use Rattle.std.specs.Str.{chars}
use Rattle.api_read.proofs.DescribedTexts.{urls_made}
use Rattle.api_read.proofs.describe.summary.urls.Goals as goal

pub returns : goal.returns
returns c =
    let url = c.as_str-3.ensures.characters ∙ c.in_ok-url.ensures in
    urls_made c.addresses.result (chars c.args.name.now) (chars c.as_str-3.result.now) (chars c.as_str-4.result.now) (chars c.as_str-5.result.now)
    url
    (c.as_str-4.ensures.characters ∙ c.in_ok-describe.ensures ∙ ap (λ (text : List ℕ). text ++ chars (codes "/describe")) (c.as_str.ensures.characters ∙ sym c.as_str-3.ensures.characters))
    (c.as_str-5.ensures.characters ∙ c.in_ok-row.ensures ∙ ap (λ (text : List ℕ). text ++ chars (codes "/{ID}")) (c.as_str-2.ensures.characters ∙ sym c.as_str-3.ensures.characters))
    c.addresses.ensures
