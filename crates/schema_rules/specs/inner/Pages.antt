-- A page of rows that may be too many. No public contract reaches these words.
use Rattle.std.specs.Prelude.{ℕ, nat_le, if◌then◌else◌, List, length, Result, Ok, Err, Vec}
use Rattle.store_rows.specs.declared.fail.StoreFail.{StoreFail}
use Rattle.store_rows.specs.declared.fail.StoreFail.TheVariants.{Damaged}

-- the rows that were read, if they are at most so many
abbrev pub at_most : {U A : Type 0} → ℕ → Result (Vec U A) StoreFail → Result (List U) StoreFail
at_most most (Ok rows) = if nat_le (length rows.items) most then Ok rows.items else Err Damaged
at_most most (Err e) = Err e
