-- What is the same of a user's levels on all records of an object that is no detail: what every user has, whom principals reach, and
-- the sharing rules that reach the user.
-- Source: Salesforce, "Record-Level Security", "Sharing Rules".
use Rattle.std.specs.Prelude.{◌≡◌, ℕ, Bool, true, false, ◌&&◌, ◌==◌, if◌then◌else◌, List, ◌∷◌, map, filter, filter_map, Option, Some, None, Result, Ok, Err}
use Rattle.base_value.specs.declared.job.RuleState.{RuleState}
use Rattle.base_value.specs.declared.sharing.Access.{Access}
use Rattle.base_value.specs.declared.sharing.Level.{Level}
use Rattle.base_value.specs.declared.sharing.Level.TheVariants.{Nothing, Read}
use Rattle.base_value.specs.declared.sharing.Principal.{Principal}
use Rattle.base_value.specs.declared.sharing.RuleSource.{RuleSource}
use Rattle.base_value.specs.declared.sharing.RuleSource.TheVariants as source
use Rattle.formula.specs.declared.formula.Formula.{Formula}
use Rattle.model.specs.declared.record.Record.{Record}
use Rattle.model.specs.Cases.{in_case}
use Rattle.model.specs.FormulaTexts.{reads_text}
use Rattle.model.specs.Levels.{Grant, acts, at_least, by_access, by_grant, by_owner, covers, greatest, has_hierarchy}
use Rattle.model.specs.Membership.{Has, reaches_on}
use Rattle.model.specs.Objects.{object_of_record}
use Rattle.model.specs.Sound.{IsSound}
use Rattle.model.specs.Tenant.{Object, SharingRule, Tenant, User}
use Rattle.store_abstraction.specs.Metadata.{source_part}
use Rattle.access_closure.specs.Keyrings.{IsMembershipOf}
use Rattle.access_closure.specs.Reading.{IsSharer}
use Rattle.access_closure.specs.declared.membership.Membership.{Membership}
use Rattle.access_closure.specs.declared.people.People.{People}
use Rattle.access_closure.specs.declared.reading.Sharer.{Sharer}
use Rattle.access_user.specs.declared.level.knowing.Criterion.{Criterion}
use Rattle.access_user.specs.declared.level.knowing.OwnLevels.{OwnLevels}
use Rattle.access_user.specs.declared.level.knowing.OwnerRule.{OwnerRule}

-- this is the keyring, with the people, of a user of a sound organisation with this number; the user is no administrator
pub record IsSharerOf (org : ℕ) (t : Tenant) (u : User) (s : Sharer) : Type 0 where
  pub sharer : IsSharer org u.id t s
  pub sound : IsSound t
  pub user : Has t.users u
  pub plain : u.admin ≡ false

-- the greater of two levels
abbrev pub greater : Level → Level → Level
greater a b = if at_least a b then b else a

-- a level as far as it is asked for: no greater than the one that is asked
abbrev pub up_to : (asked : Level) → Level → Level
up_to asked level = if at_least asked level then asked else level

-- every user may read the records of an object with this default access, whoever owns them
abbrev pub is_open : Access → Bool
is_open access = at_least Read (by_access access)

-- ---- shares apart

-- what the sharing rules that cover a record grant
abbrev pub rule_grants : Tenant → Record → List Grant
rule_grants t r = map (λ rule. record { to = rule.to; level = rule.level }) (filter (covers t r) t.sharing_rules)

-- the level on a record that isn't a detail without its manual shares: by its owner and the role hierarchy, by the object's default
-- access and by sharing rules
unfoldable pub level_apart : Tenant → User → Record → Level
level_apart t u r =
    greatest
    (by_owner t u r
    ∷ in_case (object_of_record t r) Nothing (λ o. by_access o.access)
    ∷ map (by_grant (has_hierarchy t r) t u) (rule_grants t r))

-- ---- whom principals reach

-- what is made for the user with this id: nothing where the role hierarchy counts, and else what the user is a member of, since
-- members alone are reached then
abbrev pub MembersFor : (hierarchy : Bool) → People → (id : List ℕ) → Option Membership → Type 0
MembersFor hierarchy people i None = hierarchy ≡ true
MembersFor hierarchy people i (Some members) = (hierarchy ≡ false) × IsMembershipOf people i members

-- ---- sharing rules

-- a rule in this state, of this object, that shares with this principal counts: it acts, is of the object with this number, and
-- reaches the user, where the role hierarchy counts or doesn't
abbrev pub counts : (hierarchy : Bool) → Tenant → User → (number : ℕ) → RuleState → (object : ℕ) → (to : Principal) → Bool
counts hierarchy t u n state object to = acts state && ((object == n) && reaches_on hierarchy t to u)

-- what an owner rule gives, and on the records of which owners
abbrev pub owner_rule : Level → RuleSource → Option OwnerRule
owner_rule level (source.Owner p) = Some (record { from = p; level = level })
owner_rule level (source.Criteria text) = None

-- what a criteria rule gives, and on which records, if its text spells a formula
abbrev pub criterion_read : Level → Result Formula ℕ → Option Criterion
criterion_read level (Ok formula) = Some (record { formula = formula; level = level })
criterion_read level (Err place) = None

abbrev pub spelled_criterion : Object → Level → RuleSource → Option Criterion
spelled_criterion o level (source.Owner p) = None
spelled_criterion o level (source.Criteria text) = criterion_read level (reads_text o true text)

-- what the owner rules that count give, and the criteria rules that do
abbrev pub owner_by : (hierarchy : Bool) → Tenant → User → (number : ℕ) → SharingRule → Option OwnerRule
owner_by hierarchy t u n r = if counts hierarchy t u n r.state r.object r.to then owner_rule r.level (source_part r.source) else None

abbrev pub criterion_by : (hierarchy : Bool) → Tenant → User → (number : ℕ) → Object → SharingRule → Option Criterion
criterion_by hierarchy t u n o r = if counts hierarchy t u n r.state r.object r.to then spelled_criterion o r.level (source_part r.source) else None

-- ---- all that is known

-- this is so of the user, who is one of these people, on the records of the object that has this number
pub record IsOwnLevels (people : People) (t : Tenant) (u : User) (n : ℕ) (o : Object) (own : OwnLevels) : Type 0 where
  pub base : own.base ≡ by_access o.access
  pub criteria : own.criteria ≡ filter_map (criterion_by o.hierarchy t u n o) t.sharing_rules
  pub owners : own.owners ≡ filter_map (owner_by o.hierarchy t u n) t.sharing_rules
  pub members : MembersFor o.hierarchy people u.id own.members
