-- What rows of sharing rules say, and what single rules and shares give on a record.
use Rattle.std.specs.Prelude.{ℕ, Bool, if◌then◌else◌, List, map, Option, None}
use Rattle.base_value.specs.declared.sharing.Level.{Level}
use Rattle.base_value.specs.declared.sharing.Level.TheVariants.{Nothing}
use Rattle.base_value.specs.declared.value.Value.{Value}
use Rattle.formula.specs.Meaning.{holds}
use Rattle.store_rows.specs.declared.share.ShareRow.{ShareRow}
use Rattle.store_rows.specs.declared.sharing.SharingRow.{SharingRow}
use Rattle.model.specs.declared.record.Record.{Record}
use Rattle.model.specs.Cases.{in_case}
use Rattle.model.specs.Levels.{greatest}
use Rattle.model.specs.Membership.{is_member, reaches_on}
use Rattle.model.specs.Objects.{owner_of}
use Rattle.model.specs.Tenant.{Object, Tenant, User}
use Rattle.access_user.specs.level.Own.{counts, spelled_criterion, owner_rule}
use Rattle.access_user.specs.declared.level.knowing.Criterion.{Criterion}
use Rattle.access_user.specs.declared.level.knowing.OwnerRule.{OwnerRule}

-- ---- rules by their rows

abbrev pub owner_by_row : (hierarchy : Bool) → Tenant → User → (number : ℕ) → SharingRow → Option OwnerRule
owner_by_row hierarchy t u n r = if counts hierarchy t u n r.state r.object r.to then owner_rule r.level r.source else None

abbrev pub criterion_by_row : (hierarchy : Bool) → Tenant → User → (number : ℕ) → Object → SharingRow → Option Criterion
criterion_by_row hierarchy t u n o r = if counts hierarchy t u n r.state r.object r.to then spelled_criterion o r.level r.source else None

-- ---- what they give on a record

abbrev pub by_criterion : List Value → Criterion → Level
by_criterion values c = if holds c.formula values None then c.level else Nothing

-- on the records of an owner
abbrev pub by_owner_rule : Tenant → User → OwnerRule → Level
by_owner_rule t x rule = if is_member t x rule.from then rule.level else Nothing

abbrev pub rules_on_owner : Tenant → Record → List OwnerRule → Level
rules_on_owner t r rules = in_case (owner_of t r) Nothing (λ x. greatest (map (by_owner_rule t x) rules))

abbrev pub by_share : (hierarchy : Bool) → Tenant → User → ShareRow → Level
by_share hierarchy t u share = if reaches_on hierarchy t share.to u then share.level else Nothing
