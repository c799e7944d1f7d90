-- An organisation's sharing rules: the keys of their rows, and the organisation without one.
-- Source: Salesforce, "Sharing Rules". How their rows are kept is this product's own.
use Rattle.std.specs.Prelude.{ℕ, Bool, false, not, List, bytes_eq, filter}
use Rattle.store_rows.specs.Keys.{Key, Sharing}
use Rattle.model.specs.Fields.{same_name}
use Rattle.model.specs.Tenant.{Tenant}
use Rattle.store_abstraction.specs.Metadata.{lower_bytes}

-- the key of the row of the rule with this name, whatever the case of its letters
abbrev pub is_sharing_key : (name : List ℕ) → Key → Bool
is_sharing_key name (Sharing org key) = bytes_eq (lower_bytes name) key
is_sharing_key name _ = false

-- without the rule with this name
abbrev pub without_rule : (name : List ℕ) → Tenant → Tenant
without_rule name t = record t { sharing_rules = filter (λ r. not (same_name r.name name)) t.sharing_rules }
