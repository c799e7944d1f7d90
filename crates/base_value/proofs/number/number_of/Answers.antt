use Rattle.std.proofs.Common.{◌<◌, List, ℕ, map, refl, ap, ◌∙◌, arith}
use Rattle.std.proofs.lemmas.List.{take_all}
use Rattle.base_value.specs.Digits.{digits_value}
use Rattle.base_value.specs.Id.{number62, value62}
use Rattle.base_value.proofs.Numbers.{few, lower, read_more}
use Rattle.base_value.proofs.number.number_of.Goals as goal

pub loop-place-init : goal.loop-place-init
loop-place-init c = record { within = omega arith; low = omega arith; read = refl }

pub overflow_mul-number : goal.overflow_mul-number
overflow_mul-number c =
    let inv = c.loop-place.invariant in
    omega (arith, few c.loop-place.place c.loop-place.number c.loop-place-test.true inv.low)

pub overflow_add-number : goal.overflow_add-number
overflow_add-number c =
    let inv = c.loop-place.invariant in
    omega (arith, few c.loop-place.place c.loop-place.number c.loop-place-test.true inv.low, c.from.ensures, c.digit_value.ensures.small)

pub loop-place-preserved : goal.loop-place-preserved
loop-place-preserved c =
    let inv = c.loop-place.invariant in
    let small : c.from.result < 62 = omega (arith, c.from.ensures, c.digit_value.ensures.small) in
    record {
      within = omega (arith, c.loop-place-test.true);
      low = lower 62 c.loop-place.place c.loop-place.number c.from.result inv.low small;
      read = read_more c.args.characters.now c.loop-place.place c.loop-place.number c.from.result (omega (arith, c.loop-place-test.true, c.requires.size)) inv.read (c.from.ensures ∙ c.digit_value.ensures.is);
    }

pub returns : goal.returns
unfolding number62
returns c =
    let inv = c.loop-place.invariant in
    inv.read ∙ ap (λ (cs : List ℕ). digits_value 62 (map value62 cs)) (take_all c.loop-place.place c.args.characters.now (omega (arith, inv.within, c.loop-place-test.false, c.requires.size)))
