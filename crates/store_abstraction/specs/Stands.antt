-- What tables have at each key where they stand for a world.
-- Source of the tables: C. D. Weissman and S. Bobrowski, "The Design of the Force.com Multitenant Internet Application
-- Development Platform" (SIGMOD 2009): all organisations' rows are in the same few tables, each under its organisation.
use Rattle.std.specs.Prelude.{true, ◌≡◌, ◌≢◌, ◌⊎◌, ℕ, nat_eq, Bool, false, if◌then◌else◌, List, [], length, Option, Some, None, slice_get}
use Rattle.std.specs.List.{find}
use Rattle.std.specs.Option.{option_map, option_and_then, option_eq}
use Rattle.std.specs.FinMap as map
use Rattle.store_kv.specs.Tables.{Tables}
use Rattle.store_rows.specs.declared.unique.UniqueRow.{UniqueRow}
use Rattle.store_rows.specs.declared.version.VersionRow.{VersionRow}
use Rattle.store_rows.specs.Forms.{row_bytes, FitsForm}
use Rattle.store_rows.specs.Holds.{Holds}
use Rattle.store_rows.specs.Keys.{Key, Version, Org, Object, Field, Job, User, Role, Group, Validation, Sharing, Data, Index, Unique, Relation, Owner, Share, Grant, spell}
use Rattle.store_rows.specs.Rows.{data_form, field_form, group_form, job_form, object_form, org_form, role_form, share_form, sharing_form, unique_form, user_form, validation_form, version_form}
use Rattle.model.specs.declared.record.Record.{Record}
use Rattle.model.specs.Objects.{is_of, object_numbered, record_at, records_of}
use Rattle.model.specs.Principals.{group_at, role_at}
use Rattle.model.specs.Shares.{same_share}
use Rattle.model.specs.Sound.{IsWorld}
use Rattle.model.specs.Tenant as model
use Rattle.model.specs.Tenant.{Tenant}
use Rattle.model.specs.World.{World, tenant_at, user_at}
use Rattle.store_abstraction.specs.Entries.{Entry, data_of, is_indexed, is_reference_to, is_unique, slot_entry}
use Rattle.store_abstraction.specs.Metadata.{field_of, group_of, job_of, named_so, org_of, role_of, row_of_object, row_of_share, sharing_of, user_of, validation_of}
use Rattle.store_abstraction.specs.Plan.{FitsPlan, OrgPlan, Plan, no_slots}
use Rattle.base_value.specs.declared.sharing.Level.TheVariants.{Read}
use Rattle.base_value.specs.declared.sharing.Principal.{Principal}

-- ---- the version

-- the version of the forms that are written here
abbrev pub known_version : ℕ
known_version = 1

-- without the version's row, and with it
abbrev pub closed : Plan
closed = record { opened = false; org = λ n. no_slots }

abbrev pub version_of : World → VersionRow
version_of w = record { version = known_version; organisations = length w }

abbrev pub version_at : Bool → World → Option (List ℕ)
version_at opened w = if opened then Some (row_bytes version_form (version_of w)) else None

-- ---- the rows of an organisation

-- the number of the organisation whose key it is. The key of the version is of no organisation
abbrev pub org_of_key : Key → Option ℕ
org_of_key Version = None
org_of_key (Org org) = Some org
org_of_key (Object org object) = Some org
org_of_key (Field org object field) = Some org
org_of_key (Job org) = Some org
org_of_key (User org id) = Some org
org_of_key (Role org id) = Some org
org_of_key (Group org id) = Some org
org_of_key (Validation org object name) = Some org
org_of_key (Sharing org name) = Some org
org_of_key (Data org object id) = Some org
org_of_key (Index org object slot value id) = Some org
org_of_key (Unique org object slot value) = Some org
org_of_key (Relation org object slot target id) = Some org
org_of_key (Owner org object owner id) = Some org
org_of_key (Share org id to) = Some org
org_of_key (Grant org to object id cause) = Some org

-- a record of this object, with what is in each slot
pub record Kept : Type 0 where
  pub item : Record
  pub entries : ℕ → Option Entry

-- a record of the object with this number, as it is kept
abbrev pub kept_in : OrgPlan → Tenant → (object : ℕ) → model.Object → Record → Kept
kept_in p t n o r = record { item = r; entries = slot_entry p t.job n o r }

-- the record of the object with this number that has this id
unfoldable pub kept_at : OrgPlan → Tenant → (object : ℕ) → List ℕ → Option Kept
kept_at p t n id =
    option_and_then (λ r. if is_of n r then option_map (λ o. kept_in p t n o r) (object_numbered t n) else None) (record_at t id)

-- an empty row, where the entry in a slot of a record is such
abbrev pub row_where : (Option Entry → Bool) → (slot : ℕ) → Option Kept → Option (List ℕ)
row_where is slot kept = option_and_then (λ (k : Kept). if is (k.entries slot) then Some [] else None) kept

-- the record whose value in a slot is unique and has this order key
abbrev pub unique_at : OrgPlan → Tenant → (object slot : ℕ) → List ℕ → Option Record
unique_at p t n slot key =
    option_and_then (λ o. find (λ r. is_unique key (slot_entry p t.job n o r slot)) (records_of t n)) (object_numbered t n)

abbrev pub unique_of : (org object slot : ℕ) → List ℕ → Record → UniqueRow
unique_of org n slot key r = record { org = org; object = n; slot = slot; value = key; id = r.id }

-- the share of this record with this principal
abbrev pub share_at : Tenant → List ℕ → Principal → Option model.Share
share_at t id to = find (same_share (record { item = id; to = to; level = Read })) t.shares

-- the row at a key of an organisation that is this tenant, if there is one. None has rows of owners or of grants
unfoldable pub row_in : OrgPlan → Tenant → Key → Option (List ℕ)
row_in p t (Org org) = Some (row_bytes org_form (org_of org t))
row_in p t (Object org n) = option_map (λ o. row_bytes object_form (row_of_object org t n o)) (object_numbered t n)
row_in p t (Field org n place) =
    option_map (λ f. row_bytes field_form (field_of org p n place f)) (option_and_then (λ o. slice_get o.fields place) (object_numbered t n))
row_in p t (Job org) = option_map (λ j. row_bytes job_form (job_of org p j)) t.job
row_in p t (User org id) = option_map (λ u. row_bytes user_form (user_of org u)) (user_at t.users id)
row_in p t (Role org id) = option_map (λ r. row_bytes role_form (role_of org r)) (role_at t id)
row_in p t (Group org id) = option_map (λ g. row_bytes group_form (group_of org g)) (group_at t id)
row_in p t (Validation org n name) =
    option_map (λ r. row_bytes validation_form (validation_of org n r))
    (option_and_then (λ o. named_so (λ r. r.name) o.validation_rules name) (object_numbered t n))
row_in p t (Sharing org name) = option_map (λ r. row_bytes sharing_form (sharing_of org r)) (named_so (λ r. r.name) t.sharing_rules name)
row_in p t (Data org n id) = option_map (λ (k : Kept). row_bytes data_form (data_of org n k.item k.entries)) (kept_at p t n id)
row_in p t (Index org n slot key id) = row_where (is_indexed key) slot (kept_at p t n id)
row_in p t (Unique org n slot key) = option_map (λ r. row_bytes unique_form (unique_of org n slot key r)) (unique_at p t n slot key)
row_in p t (Relation org n slot target id) = row_where (is_reference_to target) slot (kept_at p t n id)
row_in p t (Share org id to) = option_map (λ s. row_bytes share_form (row_of_share org s)) (share_at t id to)
row_in p t _ = None

-- ---- all rows

-- the row of a key, if it has an organisation
abbrev pub owned_row : Plan → World → Key → Option ℕ → Option (List ℕ)
owned_row p w k org = option_and_then (λ n. option_and_then (λ t. row_in (p.org n) t k) (tenant_at w n)) org

-- the row at a key, if there is one: the version's, or that of the organisation whose key it is
unfoldable pub row_at : Plan → World → Key → Option (List ℕ)
row_at p w Version = version_at p.opened w
row_at p w k = owned_row p w k (org_of_key k)

-- the rows once the organisation with this number is this tenant: at its keys those of the tenant, elsewhere these
abbrev pub rows_with : ℕ → OrgPlan → Tenant → (Key → Option (List ℕ)) → Key → Option (List ℕ)
rows_with n p t rows k = if option_eq nat_eq (org_of_key k) (Some n) then row_in p t k else rows k

-- ---- the whole

-- every table is reached
abbrev pub all_tables : ℕ → Bool
all_tables t = true

pub record StandsBy (p : Plan) (m : Tables) (w : World) : Type 0 where
  pub world : IsWorld w
  pub plans : (n : ℕ) (t : Tenant) → tenant_at w n ≡ Some t → FitsPlan (p.org n) t
  pub opened : p.opened ≡ false → w ≡ []
  -- these rows, and no other
  pub rows : Holds all_tables m (row_at p w)

-- the tables stand for the world
abbrev pub Stands : Tables → World → Type 0
Stands m w = (p : Plan) × StandsBy p m w

-- ---- the version of tables

-- the version's row is this one
pub record IsVersion (m : Tables) (row : VersionRow) : Type 0 where
  pub fits : FitsForm version_form row
  pub kept : map.get m (spell Version) ≡ Some (row_bytes version_form row)

-- nothing is at the key of the version, nor at that of the first organisation
abbrev pub HasNothing : Tables → Type 0
HasNothing m = (map.get m (spell Version) ≡ None) × (map.get m (spell (Org 1)) ≡ None)

-- the version is the one that is known here. Tables that have nothing are of it
abbrev pub HasKnownVersion : Tables → Type 0
HasKnownVersion m = HasNothing m ⊎ ((row : VersionRow) × IsVersion m row × (row.version ≡ known_version))

-- the version is another
abbrev pub HasUnknownVersion : Tables → Type 0
HasUnknownVersion m = (row : VersionRow) × IsVersion m row × (row.version ≢ known_version)
