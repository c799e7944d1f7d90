use Rattle.std.proofs.Common.{◌∙◌, ℕ, ◌&&◌, ap}
use Rattle.std.specs.Prelude.{nat_le}
use Rattle.std.specs.Str.{chars}
use Rattle.std.proofs.lemmas.Str.{scalars-chars}
use Rattle.model.specs.Limits.{name_limit}
use Rattle.model.proofs.Names.{name_when}
use Rattle.model.proofs.name_forms.is_name.Goals as goal

pub returns : goal.returns
returns c =
    c.is_name_length.ensures
    ∙ ap (λ (n : ℕ). nat_le 1 n && nat_le n name_limit) c.character_count.ensures
    ∙ name_when (chars c.args.name.now) (scalars-chars c.args.name.now c.utf8.name)
