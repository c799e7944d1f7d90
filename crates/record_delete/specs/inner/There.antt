-- The record that has an id which a record is known to have, and its row.
use Rattle.std.specs.Prelude.{◌≡◌, ℕ, List, None, Some, Option, Result, Ok, Err}
use Rattle.store_rows.specs.declared.fail.StoreFail.{StoreFail}
use Rattle.store_rows.specs.declared.fail.StoreFail.TheVariants.{Damaged}
use Rattle.model.specs.Rights.{record_of_object}
use Rattle.model.specs.Tenant.{Tenant}
use Rattle.record_target.specs.declared.kept.KeptRecord.{KeptRecord}
use Rattle.record_target.specs.Kept.{IsKept}
use Rattle.store_abstraction.specs.declared.layout.Layout.{Layout}
use Rattle.store_abstraction.specs.Plan.{OrgPlan}

-- what was found; that nothing was is damage
abbrev pub found_there : Result (Option KeptRecord) StoreFail → Result KeptRecord StoreFail
found_there (Ok (Some k)) = Ok k
found_there (Ok None) = Err Damaged
found_there (Err e) = Err e

-- it is the object's record with this id in this tenant, and its row; or why the work on the tables stopped, which is damage only
-- if there is no such record
abbrev pub FindsKept : OrgPlan → Tenant → Layout → (id : List ℕ) → Result KeptRecord StoreFail → Type 0
FindsKept q t l id (Ok k) = IsKept q t l id k
FindsKept q t l id (Err e) = e ≡ Damaged → record_of_object t l.object id ≡ None
