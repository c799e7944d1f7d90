use Rattle.std.proofs.Common.{◌<◌, arith}
use Rattle.base_value.proofs.Sizes.{zero_digit, next_digit}
use Rattle.base_value.proofs.exact.with_digit.Goals as goal

pub returns-then-digit-eq0-clause-next : goal.returns-then-digit-eq0-clause-next
returns-then-digit-eq0-clause-next c = λ n h. zero_digit c.args.mantissa.kept c.args.mantissa.zeros n c.args.digit c.if-digit-eq0.true h

pub returns-clause-next : goal.returns-clause-next
returns-clause-next c = λ n h.
    let some : 0 < c.args.digit = omega arith in
    next_digit c.args.mantissa.kept c.shift.result c.args.mantissa.zeros n c.args.digit some c.requires.digit h c.shift.ensures
