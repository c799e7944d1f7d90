-- The level of an administrator.
use Rattle.std.specs.Prelude.{Bool, true, false, Result, Ok, Err}
use Rattle.store_rows.specs.declared.fail.StoreFail.{StoreFail}
use Rattle.base_value.specs.declared.sharing.Level.{Level}
use Rattle.base_value.specs.declared.sharing.Level.TheVariants.{Full, Nothing}

-- every level, if there is a record
abbrev pub level_if : Result Bool StoreFail → Result Level StoreFail
level_if (Ok true) = Ok Full
level_if (Ok false) = Ok Nothing
level_if (Err e) = Err e
