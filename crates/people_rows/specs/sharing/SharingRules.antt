-- The rows of an organisation's sharing rules.
use Rattle.std.specs.Prelude.{ℕ, List, [], map, Option}
use Rattle.store_rows.specs.declared.sharing.SharingRow.{SharingRow}
use Rattle.model.specs.Cases.{in_case}
use Rattle.model.specs.Tenant.{Tenant}
use Rattle.store_abstraction.specs.Metadata.{sharing_of}

-- in the order of their lower-case names; none where there is no such organisation
abbrev pub sharing_rows : (org : ℕ) → Option Tenant → List SharingRow
sharing_rows org t = in_case t [] (λ u. map (sharing_of org) u.sharing_rules)
