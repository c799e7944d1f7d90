-- The manual shares of a record as rows.
use Rattle.std.specs.Prelude.{◌≡◌, ◌≢◌, ℕ, List, map, None, Result, Ok, Err}
use Rattle.store_rows.specs.Keys.{Share}
use Rattle.store_rows.specs.declared.fail.StoreFail.{StoreFail}
use Rattle.store_rows.specs.declared.fail.StoreFail.TheVariants.{Damaged}
use Rattle.store_rows.specs.declared.share.ShareRow.{ShareRow}
use Rattle.model.specs.Shares.{shares_of}
use Rattle.model.specs.Tenant.{Tenant}
use Rattle.store_abstraction.specs.Changes.{Change}
use Rattle.store_abstraction.specs.Metadata.{row_of_share}

-- these are the rows of a record's manual shares, or why the work on the tables stopped
abbrev pub ListsShares : (org : ℕ) → Tenant → (id : List ℕ) → Result (List ShareRow) StoreFail → Type 0
ListsShares org t id (Ok rows) = rows ≡ map (row_of_share org) (shares_of id t.shares)
ListsShares org t id (Err e) = e ≢ Damaged

-- the changes that remove such rows of the record with this id
abbrev pub shares_removed : (org : ℕ) → (id : List ℕ) → List ShareRow → List Change
shares_removed org id rows = map (λ u. (Share org id u.to, None)) rows
