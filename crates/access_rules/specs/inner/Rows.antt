-- The row of a sharing rule at its key. No public contract reaches these words.
-- Source: C. D. Weissman and S. Bobrowski, "The Design of the Force.com Multitenant Internet Application Development
-- Platform" (SIGMOD 2009): rules are rows of tables too.
use Rattle.std.specs.Prelude.{ℕ, List, Option}
use Rattle.std.specs.Option.{option_and_then, option_map}
use Rattle.store_rows.specs.declared.sharing.SharingRow.{SharingRow}
use Rattle.store_rows.specs.Rows.{sharing_form}
use Rattle.model.specs.Tenant.{Tenant}
use Rattle.store_codec.specs.Shapes.{Val}
use Rattle.store_abstraction.specs.Metadata.{lower_bytes, named_so, sharing_of}
use Rattle.store_abstraction.specs.Plan.{OrgPlan}

-- in one organisation: the row of the rule that has this name in lower case
abbrev pub own_sharing_row : (org : ℕ) → (lower_name : List ℕ) → OrgPlan → Option Tenant → Option SharingRow
own_sharing_row org lower_name q t = option_and_then (λ u. option_map (sharing_of org) (named_so (λ r. r.name) u.sharing_rules lower_name)) t

-- the parts of the key of the rule with this name
abbrev pub key_of_name : (org : ℕ) → (name : List ℕ) → Val sharing_form.key
key_of_name org name = (org, (tt, lower_bytes name))
