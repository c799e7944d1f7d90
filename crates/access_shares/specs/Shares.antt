-- The keys of manual shares.
-- Source: Salesforce, "Record-Level Security", "Manual Sharing". How their rows are kept is this product's own.
use Rattle.std.specs.Prelude.{Bool, false}
use Rattle.store_rows.specs.Keys.{Key}
use Rattle.store_rows.specs.Keys as key
use Rattle.model.specs.Shares.{same_share}
use Rattle.model.specs.Tenant.{Share}
use Rattle.base_value.specs.declared.sharing.Level.TheVariants.{Read}

-- the key of the row of the share of this one's record with its principal
abbrev pub is_share_key : Share → Key → Bool
is_share_key s (key.Share org id to) = same_share (record { item = id; to = to; level = Read }) s
is_share_key s _ = false
