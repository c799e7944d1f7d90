-- Answers in some form.
use Rattle.std.specs.Prelude.{◌≡◌, ◌≢◌, Result, Ok, Err}
use Rattle.store_rows.specs.declared.fail.StoreFail.{StoreFail}
use Rattle.store_rows.specs.declared.fail.StoreFail.TheVariants.{Damaged}

-- it is this; or the work on the tables stopped, which are not damaged
abbrev pub IsAnswer : {X : Type 0} → X → Result X StoreFail → Type 0
IsAnswer x (Ok y) = y ≡ x
IsAnswer x (Err e) = e ≢ Damaged
