use Rattle.std.proofs.Common.{◌∙◌, ◌∷◌, ◌%◌, [], ℕ, ap, ap₂, div-one, sym}
use Rattle.model.specs.Objects.{record_prefix}
use Rattle.base_value.specs.Digits.{digits}
use Rattle.base_value.specs.Id.{digit62}
use Rattle.record_input.proofs.numbering.record_prefix.Goals as goal

pub returns-clause-prefix : goal.returns-clause-prefix
unfolding record_prefix digits
returns-clause-prefix c =
    ap₂ (λ (x y : ℕ). 97 ∷ x ∷ y ∷ []) c.digit.ensures.digit (c.digit-2.ensures.digit ∙ ap (λ (n : ℕ). digit62 (n % 62)) (sym (div-one c.args.object)))
