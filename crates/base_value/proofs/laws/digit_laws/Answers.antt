use Rattle.base_value.proofs.DigitOrder.{digits_order}
use Rattle.base_value.proofs.laws.digit_laws.Goals as goal

pub returns : goal.returns
returns c = record { ordered = digits_order }
