-- What a user may do with a record.
-- Source: Salesforce, "Record-Level Security" and "A Guide to Sharing Architecture": defaults of the organisation, the role
-- hierarchy, sharing rules, manual shares, and a detail's access by its master.
use Rattle.std.specs.Prelude.{ℕ, zero, suc, Bool, true, false, ◌&&◌, ◌||◌, ◌==◌, nat_le, if◌then◌else◌, List, [], ◌∷◌, ◌++◌, map, filter, bytes_eq, Option, None, Result, Ok, Err}
use Rattle.base_value.specs.declared.job.RuleState.{RuleState}
use Rattle.base_value.specs.declared.job.RuleState.TheVariants as state
use Rattle.base_value.specs.declared.sharing.Access.{Access}
use Rattle.base_value.specs.declared.sharing.Access.TheVariants as access
use Rattle.base_value.specs.declared.sharing.Level.{Level}
use Rattle.base_value.specs.declared.sharing.Level.TheVariants.{Nothing, Read, Edit, Full}
use Rattle.base_value.specs.declared.sharing.Principal.{Principal}
use Rattle.base_value.specs.declared.value.Value.{Value}
use Rattle.formula.specs.declared.formula.Formula.{Formula}
use Rattle.formula.specs.Meaning.{holds}
use Rattle.model.specs.declared.limit.Limit.TheVariants as limit
use Rattle.model.specs.declared.record.Record.{Record}
use Rattle.model.specs.Cases.{in_case}
use Rattle.model.specs.FormulaTexts.{reads_text}
use Rattle.model.specs.Limits.{limit_number}
use Rattle.model.specs.Membership.{is_above, is_member, reaches_on}
use Rattle.model.specs.Objects.{object_number, object_of_record, owner_of, record_at, records_of}
use Rattle.model.specs.Relationships.{master_of_object, named_record}
use Rattle.model.specs.Tenant.{Object, SharingRule, Source, owned, meets, Tenant, User}

-- ---- levels in their order

-- levels as numbers
abbrev pub rank : Level → ℕ
rank Nothing = 0
rank Read = 1
rank Edit = 2
rank Full = 3

-- the second level includes the first
abbrev pub at_least : Level → Level → Bool
at_least least level = nat_le (rank least) (rank level)

-- the greatest of some levels
abbrev pub greatest : List Level → Level
greatest [] = Nothing
greatest (l ∷ ls) = if at_least l (greatest ls) then greatest ls else l

-- ---- grants

-- the formula that was read holds on these values of a record, which had the old ones before; what spells none doesn't hold
abbrev pub read_holds : Result Formula ℕ → List Value → Option (List Value) → Bool
read_holds (Ok formula) new old = holds formula new old
read_holds (Err place) new old = false

-- a criteria rule's text holds on a record of the object
abbrev pub meets_text : List ℕ → Record → Object → Bool
meets_text text r o = read_holds (reads_text o true text) r.values None

-- a source covers a record: its owner is a member, or the formula holds on it
abbrev pub covered_by : Tenant → Record → Source → Bool
covered_by t r (owned p) = in_case (owner_of t r) false (λ u. is_member t u p)
covered_by t r (meets text) = in_case (object_of_record t r) false (meets_text text r)

-- a rule acts unless it is leaving
abbrev pub acts : RuleState → Bool
acts state.Leaving = false
acts _ = true

-- a rule that acts, of the record's object, whose source covers the record
abbrev pub covers : Tenant → Record → SharingRule → Bool
covers t r rule = acts rule.state && ((rule.object == object_number r.id) && covered_by t r rule.source)

-- a level for whom a principal reaches
pub record Grant : Type 0 where
  pub to : Principal
  pub level : Level

-- those of the rules that cover a record, and of its manual shares
unfoldable pub grants : Tenant → Record → List Grant
grants t r =
    map (λ rule. record { to = rule.to; level = rule.level }) (filter (covers t r) t.sharing_rules)
    ++ map (λ share. record { to = share.to; level = share.level }) (filter (λ share. bytes_eq share.item r.id) t.shares)

-- ---- the level of a user on a record

-- the role hierarchy counts for the records of this one's object
abbrev pub has_hierarchy : Tenant → Record → Bool
has_hierarchy t r = in_case (object_of_record t r) false (λ o. o.hierarchy)

-- the user owns the record, or is above who owns it where the role hierarchy counts
abbrev pub owns : Tenant → User → Record → Bool
owns t u r = in_case (owner_of t r) false (λ x. bytes_eq x.id u.id || (has_hierarchy t r && is_above t u x))

-- what administrators, owners and users above them have
abbrev pub by_owner : Tenant → User → Record → Level
by_owner t u r = if u.admin || owns t u r then Full else Nothing

-- what every user has
abbrev pub by_access : Access → Level
by_access access.Private = Nothing
by_access access.Read = Read
by_access access.ReadWrite = Edit
by_access access.ControlledByParent = Nothing

-- what a grant gives a user
abbrev pub by_grant : (hierarchy : Bool) → Tenant → User → Grant → Level
by_grant hierarchy t u g = if reaches_on hierarchy t g.to u then g.level else Nothing

-- the level on a record that isn't a detail
unfoldable pub own_level : Tenant → User → Record → Level
own_level t u r =
    greatest
    (by_owner t u r
    ∷ in_case (object_of_record t r) Nothing (λ o. by_access o.access)
    ∷ map (by_grant (has_hierarchy t r) t u) (grants t r))

-- who may edit a master has its details in full
abbrev pub full_for_edit : Level → Level
full_for_edit Edit = Full
full_for_edit level = level

-- the level on a record, through at most so many records: a detail's is its master's
abbrev pub level_within : ℕ → Tenant → User → Record → Level
level_within zero t u r = Nothing
level_within (suc n) t u r =
    in_case (master_of_object t.objects (object_number r.id)) (own_level t u r) (λ f.
    in_case (named_record t f r) Nothing (λ m. full_for_edit (level_within n t u m)))

-- the level of a user on a record
unfoldable pub level : Tenant → User → Record → Level
level t u r = level_within (suc (limit_number limit.DetailLevels)) t u r

-- the same on the record with this id: nothing where there is none
abbrev pub level_at : Tenant → User → List ℕ → Level
level_at t u id = in_case (record_at t id) Nothing (level t u)

-- ---- what a user may read

-- the user may read the record
abbrev pub can_read : Tenant → User → Record → Bool
can_read t u r = at_least Read (level t u r)

-- the records of an object that a user may read, in the order of their ids
unfoldable pub readable : Tenant → User → ℕ → List Record
readable t u n = filter (can_read t u) (records_of t n)
