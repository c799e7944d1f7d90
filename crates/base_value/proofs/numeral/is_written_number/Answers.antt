use Rattle.std.proofs.Common.{◌≡◌, true, false, length, nat_le, refl, sym, ◌∙◌, arith}
use Rattle.std.proofs.lemmas.Bool.Decides.{nat_tests}
use Rattle.base_value.proofs.Splits.{written-none, written-split}
use Rattle.base_value.proofs.numeral.is_written_number.Goals as goal

pub returns-then-split-le18 : goal.returns-then-split-le18
returns-then-split-le18 c =
    let few : nat_le (length c.in-Some.split.whole.now) 18 ≡ true = grind (arith, nat_tests, c.if-split-le18.true) in
    sym (written-split _ _ _ c.in-Some.ensures ∙ rw few refl)

pub returns-else-split-le18 : goal.returns-else-split-le18
returns-else-split-le18 c =
    let many : nat_le (length c.in-Some.split.whole.now) 18 ≡ false = grind (arith, nat_tests, c.if-split-le18.false) in
    sym (written-split _ _ _ c.in-Some.ensures ∙ rw many refl)

pub returns-in-None : goal.returns-in-None
returns-in-None c = sym (written-none _ c.in-None.ensures)
