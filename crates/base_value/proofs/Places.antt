-- The digits of a fraction, place by place.
use Rattle.std.proofs.Common.{◌≡◌, ◌≢◌, ℕ, zero, suc, ◌+◌, ◌-◌, ◌*◌, ◌/◌, ◌%◌, ◌^◌, ◌<◌, [], ◌∷◌, refl, ◌∙◌, ap, arith, ne_eqb as not_same}
use Rattle.std.proofs.lemmas.Nat.{div_below, pow-add}
use Rattle.base_value.specs.Printing.{print_places}
use Rattle.base_value.proofs.Sizes.{ten_pos}

pub some_places : (places rest : ℕ) → rest ≢ 0 → rest < 10 ^ places → 0 < places
some_places zero rest some small = absurd (some (omega arith))
some_places (suc k) rest some small = omega arith

pub places_step : (places rest : ℕ) → rest ≢ 0 → rest < 10 ^ places
    → print_places places rest ≡ (48 + rest / 10 ^ (places - 1)) ∷ print_places (places - 1) (rest % 10 ^ (places - 1))
unfolding print_places
places_step zero rest some small = absurd (some (omega arith))
places_step (suc k) rest some small = let e : suc k - 1 ≡ k = omega arith in rw (e, not_same rest 0 some) refl

pub places_digit : (places rest : ℕ) → 0 < places → rest < 10 ^ places → rest / 10 ^ (places - 1) < 10
places_digit places rest some small =
    let e : places ≡ 1 + (places - 1) = omega arith in
    let split : 10 ^ places ≡ 10 * 10 ^ (places - 1) = ap (λ k. 10 ^ k) e ∙ pow-add 10 1 (places - 1) in
    div_below rest (10 ^ (places - 1)) 10 (ten_pos (places - 1)) (omega arith)

pub no_places : (places : ℕ) → print_places places 0 ≡ []
unfolding print_places
no_places zero = refl
no_places (suc k) = refl
