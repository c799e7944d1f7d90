use Rattle.std.proofs.Common.{◌≡◌, ℕ, ◌+◌, ◌*◌, true, List, [], ◌∷◌, get_or, ap, ◌∙◌, arith}
use Rattle.model.specs.Objects.{object_number}
use Rattle.base_value.specs.Id.{is_id, number62, value62}
use Rattle.record_cascade.proofs.object.object_number.Goals as goal

-- the digits behind the first character
two_digits : (cs : List ℕ) → is_id cs ≡ true → value62 (get_or cs 1 0) * 62 + value62 (get_or cs 2 0) ≡ object_number cs
unfolding object_number number62
two_digits [] e = absurd cc
two_digits (a ∷ []) e = absurd cc
two_digits (a ∷ b ∷ []) e = absurd cc
two_digits (a ∷ b ∷ d ∷ cs) e = omega arith

pub returns : goal.returns
returns c =
    let characters = c.as_bytes-characters.result.now in
    ap (λ (m : ℕ). m * 62 + c.digit_value-2.result) c.digit_value.ensures.is
    ∙ ap (λ (m : ℕ). value62 (get_or characters 1 0) * 62 + m) c.digit_value-2.ensures.is
    ∙ two_digits characters (ap is_id c.as_bytes-characters.ensures.characters ∙ c.as_bytes-characters.ensures.id)
    ∙ ap object_number c.as_bytes-characters.ensures.characters
