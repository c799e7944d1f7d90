use Rattle.std.proofs.Common.{◌∙◌, inr, refl, sym}
use Rattle.std.proofs.lemmas.Slice.Eq.{bytes_eq-Decides}
use Rattle.base_value.proofs.Ids.{front, made-is_id}
use Rattle.base_value.proofs.Numbers.{made-number, number-made}
use Rattle.base_value.proofs.DigitOrder.{made-one, made-order}
use Rattle.base_value.proofs.laws.id_laws.Goals as goal

pub returns-clause-made : goal.returns-clause-made
returns-clause-made c prefix n size h = made-is_id prefix n size h

pub returns-clause-different : goal.returns-clause-different
returns-clause-different c prefix m n a b e = made-one prefix m n a b e

pub returns-clause-ordered : goal.returns-clause-ordered
returns-clause-ordered c prefix m n a b = made-order prefix m n a b

pub returns-clause-printed : goal.returns-clause-printed
returns-clause-printed c id = inr refl

pub returns-clause-one : goal.returns-clause-one
returns-clause-one c a b text ha hb ta tb = sym (front a text ha ta).1 ∙ (front b text hb tb).1

pub returns-clause-number : goal.returns-clause-number
returns-clause-number c prefix n size small = made-number prefix n size small

pub returns-clause-numbered : goal.returns-clause-numbered
returns-clause-numbered c prefix id n h e = number-made prefix id n h e

pub returns-clause-same : goal.returns-clause-same
returns-clause-same c a b = bytes_eq-Decides a b
