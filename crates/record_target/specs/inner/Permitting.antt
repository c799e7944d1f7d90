-- What was found, by the user's level on it.
use Rattle.std.specs.Prelude.{if◌then◌else◌, Result, Ok, Err}
use Rattle.store_rows.specs.declared.fail.StoreFail.{StoreFail}
use Rattle.model.specs.Levels.{at_least}
use Rattle.model.specs.declared.refusal.Refusal.TheVariants.{InsufficientAccess, NotFound}
use Rattle.record_target.specs.declared.named.Named.{Named}
use Rattle.store_abstraction.specs.declared.fail.EditFail.{EditFail}
use Rattle.store_abstraction.specs.declared.fail.EditFail.TheVariants.{Refused, Store}
use Rattle.base_value.specs.declared.sharing.Level.{Level}
use Rattle.base_value.specs.declared.sharing.Level.TheVariants.{Read}

-- the same, if it may be read and the level is enough: NOT_FOUND, and then INSUFFICIENT_ACCESS_OR_READONLY
abbrev pub permit : Named → (least : Level) → Result Level StoreFail → Result Named EditFail
permit x least (Ok level) =
    if at_least Read level then (if at_least least level then Ok x else Err (Refused InsufficientAccess)) else Err (Refused NotFound)
permit x least (Err e) = Err (Store e)
