-- What the end of a role or of a group changes. No public contract reaches these words.
-- Source: Salesforce, "UserRole" and "Group".
use Rattle.std.specs.Prelude.{◌-◌, ◌==◌, ℕ, Bool, true, if◌then◌else◌, not, List, [], ◌∷◌, Option, Some, None, is_none}
use Rattle.std.specs.Option.{option_and_then}
use Rattle.store_edit.specs.Rows.{change_to}
use Rattle.store_rows.specs.declared.org.OrgRow.{OrgRow}
use Rattle.store_rows.specs.Keys as key
use Rattle.store_rows.specs.Keys.{Key}
use Rattle.store_rows.specs.Rows.{org_form}
use Rattle.model.specs.Cases.{in_case}
use Rattle.model.specs.declared.refusal.Refusal.TheVariants.{NotFound}
use Rattle.model.specs.Principals.{group_at, role_at}
use Rattle.model.specs.Rules.{Rule, refuse_if}
use Rattle.model.specs.Tenant.{Tenant}
use Rattle.store_abstraction.specs.Changes.{Change}
use Rattle.store_abstraction.specs.Metadata.{org_of}
use Rattle.model_requests.specs.Removals.{without_group, without_role}
use Rattle.people_removal.specs.inner.Naming.{uses}
use Rattle.people_removal.specs.declared.named.Named.{Named}
use Rattle.people_removal.specs.declared.named.Named.TheVariants as named

-- its id
abbrev pub id_of : Named → List ℕ
id_of (named.Role i) = i
id_of (named.Group i) = i

-- the organisation hasn't it
abbrev pub lacks : Named → Tenant → Bool
lacks (named.Role i) t = is_none (role_at t i)
lacks (named.Group i) t = is_none (group_at t i)

-- the organisation has it; none has it where there is no organisation
abbrev pub has_it : Named → Option Tenant → Bool
has_it n t = not (in_case t true (lacks n))

-- the organisation without it
abbrev pub without : Named → Tenant → Tenant
without (named.Role i) = without_role i
without (named.Group i) = without_group i

-- NOT_FOUND: the organisation hasn't it
abbrev pub not_here : Named → Tenant → Rule
not_here n t = refuse_if (lacks n t) NotFound

-- the rules on its removal, once the text of its id is judged
abbrev pub removal_rules : Tenant → Named → List Rule
removal_rules t n = not_here n t ∷ uses t n

-- the organisation's row with one less, if it counts one
abbrev pub one_less : Named → OrgRow → Option OrgRow
one_less (named.Role i) row = if row.roles == 0 then None else Some (record row { roles = row.roles - 1 })
one_less (named.Group i) row = if row.groups == 0 then None else Some (record row { groups = row.groups - 1 })

-- the row of an organisation that is this tenant with one less, if it counts one; none where there is no organisation
abbrev pub own_less : (org : ℕ) → Named → Option Tenant → Option OrgRow
own_less org n t = option_and_then (λ u. one_less n (org_of org u)) t

-- the key of its row
abbrev pub key_of : (org : ℕ) → Named → Key
key_of org (named.Role i) = key.Role org i
key_of org (named.Group i) = key.Group org i

-- the row with one less is put, and that of what goes is removed
abbrev pub changes_of : (org : ℕ) → Named → OrgRow → List Change
changes_of org n row = change_to org_form row ∷ (key_of org n, None) ∷ []
