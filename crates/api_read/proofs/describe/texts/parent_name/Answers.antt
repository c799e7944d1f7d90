use Rattle.std.proofs.Common.{◌∙◌, ◌-◌, ℕ, ap, sym}
use Rattle.std.specs.Str.{chars}
use Rattle.api_read.proofs.DescribedTexts.{parent_made}
use Rattle.api_read.proofs.describe.texts.parent_name.Goals as goal

pub returns : goal.returns
returns c =
    parent_made c.joined.result (chars c.args.field.now) c.deref.result.now (chars c.as_str.result.now) c.saturating_sub.result
    (c.deref.ensures.value ∙ c.in_ok-all.ensures)
    (c.saturating_sub.ensures ∙ ap (λ (n : ℕ). n - 3) (c.len.ensures ∙ sym c.deref.ensures.len))
    (c.as_str.ensures.characters ∙ c.in_ok-front.ensures)
    c.joined.ensures
