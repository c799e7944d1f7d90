-- The manual shares that end where a record gets another owner.
use Rattle.std.specs.Prelude.{◌≡◌, ◌≢◌, ℕ, List, Result, Ok, Err}
use Rattle.store_rows.specs.declared.fail.StoreFail.{StoreFail}
use Rattle.store_rows.specs.declared.fail.StoreFail.TheVariants.{Damaged}
use Rattle.store_rows.specs.declared.share.ShareRow.{ShareRow}
use Rattle.model.specs.Tenant.{Tenant}
use Rattle.model.specs.declared.record.Record.{Record}
use Rattle.record_target.specs.Shares.{shares_removed}
use Rattle.record_save.specs.Updating.{shares_gone}

-- the rows of those that end, or why the work on the tables stopped
abbrev pub EndsShares : (org : ℕ) → Tenant → (old new : Record) → Result (List ShareRow) StoreFail → Type 0
EndsShares org t old new (Ok rows) = shares_removed org new.id rows ≡ shares_gone org t old new
EndsShares org t old new (Err e) = e ≢ Damaged
