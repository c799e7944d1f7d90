use Rattle.std.proofs.Common.{◌≡◌, ◌-◌, ◌+◌, ◌/◌, ◌^◌, ◌++◌, ◌∷◌, [], sym, ◌∙◌, ap, append-nil, append_assoc, arith}
use Rattle.std.specs.String.{string_bytes}
use Rattle.std.specs.Char.{encode_utf8}
use Rattle.std.proofs.lemmas.Nat.{mod_below}
use Rattle.base_value.specs.Printing.{print_places}
use Rattle.base_value.proofs.Sizes.{ten_pos}
use Rattle.base_value.proofs.Places.{some_places, places_step, places_digit, no_places}
use Rattle.base_value.proofs.decimal.push_places.Goals as goal

pub nonzero_div-rest : goal.nonzero_div-rest
nonzero_div-rest c = omega (arith, c.pow-unit.ensures, ten_pos (c.places.places - 1))

pub nonzero_rem-rest : goal.nonzero_rem-rest
nonzero_rem-rest c = omega (arith, c.pow-unit.ensures, ten_pos (c.places.places - 1))

pub digit-requires : goal.digit-requires
digit-requires c =
    rw c.pow-unit.ensures (places_digit c.places.places c.places.rest (some_places c.places.places c.places.rest c.places-test.true c.places.invariant.small) c.places.invariant.small)

pub places-preserved : goal.places-preserved
places-preserved c =
    let step = places_step c.places.places c.places.rest c.places-test.true c.places.invariant.small in
    let below = places_digit c.places.places c.places.rest (some_places c.places.places c.places.rest c.places-test.true c.places.invariant.small) c.places.invariant.small in
    let digit : c.digit.result ≡ 48 + c.places.rest / 10 ^ (c.places.places - 1) = c.digit.ensures ∙ ap (λ u. 48 + c.places.rest / u) c.pow-unit.ensures in
    let ascii : encode_utf8 c.digit.result ≡ c.digit.result ∷ [] = c.in_ok-push.ensures.ascii (omega arith) in
    let bytes : string_bytes c.push.new.self ≡ string_bytes c.places.text ++ c.digit.result ∷ [] = c.in_ok-push.ensures.bytes ∙ ap (λ xs. string_bytes c.places.text ++ xs) ascii in
    record {
      same =
          rw (bytes, digit, c.pow-unit.ensures) (append_assoc (string_bytes c.places.text) _ _
          ∙ ap (λ xs. string_bytes c.places.text ++ xs) (sym step) ∙ c.places.invariant.same);
      small = rw c.pow-unit.ensures (mod_below c.places.rest (10 ^ (c.places.places - 1)) (ten_pos (c.places.places - 1)));
      places = omega (arith, c.places.invariant.places);
    }

pub returns : goal.returns
returns c =
    sym (append-nil (string_bytes c.places.text))
    ∙ ap (λ xs. string_bytes c.places.text ++ xs) (sym (no_places c.places.places) ∙ ap (print_places c.places.places) (sym c.places-test.false)) ∙ c.places.invariant.same
