-- The rows that count records, with some records less.
use Rattle.std.specs.Prelude.{◌≡◌, ◌-◌, ℕ, List, Some}
use Rattle.std.specs.List.{AllByRecursion}
use Rattle.store_rows.specs.declared.object.ObjectRow.{ObjectRow}
use Rattle.store_rows.specs.declared.org.OrgRow.{OrgRow}
use Rattle.model.specs.Objects.{Numbered, object_numbered}
use Rattle.model.specs.Tenant.{Tenant}

-- the row of the organisation with this number, and of its object with this one
abbrev pub org_less : (org gone : ℕ) → OrgRow → OrgRow
org_less org gone row = record row { org = org; records = row.records - gone }

abbrev pub object_row_less : (org object gone : ℕ) → ObjectRow → ObjectRow
object_row_less org n gone row = record row { org = org; object = n; records = row.records - gone }

-- these are objects of the tenant, by their numbers
abbrev pub AreObjects : Tenant → List Numbered → Type 0
AreObjects t os = AllByRecursion (λ (o : Numbered). object_numbered t o.number ≡ Some o.object) os
