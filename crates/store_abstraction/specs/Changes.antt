-- Changes of rows, one after the other.
use Rattle.std.specs.Prelude.{◌≡◌, ℕ, Bool, List, [], ◌∷◌, Option, Some, None}
use Rattle.std.specs.List.{list_any}
use Rattle.std.specs.FinMap as map
use Rattle.store_kv.specs.Tables.{Tables}
use Rattle.store_rows.specs.Keys.{FitsKey, Key, key_eq, spell}
use Rattle.model.specs.Tenant.{Tenant}
use Rattle.store_abstraction.specs.Plan.{OrgPlan}
use Rattle.store_abstraction.specs.Stands.{org_of_key, row_in}

-- another row at a key, or none
abbrev pub Change : Type 0
Change = Key × Option (List ℕ)

-- tables with one change
abbrev pub with_change : Change → Tables → Tables
with_change (k, Some row) m = map.insert m (spell k) row
with_change (k, None) m = map.remove m (spell k)

-- tables after changes
abbrev pub with_changes : List Change → Tables → Tables
with_changes [] m = m
with_changes (c ∷ changes) m = with_changes changes (with_change c m)

-- one of the changes is at this key
abbrev pub is_changed : List Change → Key → Bool
is_changed changes k = list_any (λ c. key_eq k c.0) changes

-- a change to what the tenant, the organisation with this number, has at a key of its own
abbrev pub IsOf : (org : ℕ) → OrgPlan → Tenant → Change → Type 0
IsOf org p t c = FitsKey c.0 × (org_of_key c.0 ≡ Some org) × (row_in p t c.0 ≡ c.1)
