-- The level on a record by what is read of its masters. No public contract reaches these words.
use Rattle.std.specs.Prelude.{◌≡◌, ◌≤◌, ℕ, suc, false, List, [], Option, Result, Ok, Err}
use Rattle.std.specs.Option.{option_and_then}
use Rattle.formula.specs.Meaning.{value_at}
use Rattle.store_rows.specs.declared.fail.StoreFail.{StoreFail}
use Rattle.access_user.specs.level.Own.{up_to}
use Rattle.access_user.specs.declared.level.knowing.OwnLevels.{OwnLevels}
use Rattle.model.specs.declared.limit.Limit.TheVariants as limit
use Rattle.model.specs.declared.record.Record.{Record}
use Rattle.model.specs.Fields.{ref_of}
use Rattle.model.specs.Levels.{full_for_edit, level, level_within, own_level}
use Rattle.model.specs.Limits.{limit_number}
use Rattle.model.specs.Membership.{Has}
use Rattle.model.specs.Objects.{object_number}
use Rattle.model.specs.Rights.{record_of_object}
use Rattle.model.specs.Tenant.{Tenant, User}
use Rattle.store_codec.specs.declared.fail.CodecFail.{CodecFail}
use Rattle.store_codec.specs.declared.fail.CodecFail.TheVariants as codec
use Rattle.store_abstraction.specs.declared.layout.Layout.{Layout}
use Rattle.store_abstraction.specs.Layouts.{IsLayout}
use Rattle.store_abstraction.specs.Plan.{OrgPlan}
use Rattle.base_value.specs.declared.sharing.Level.{Level}
use Rattle.access_user.specs.Granting.{IsUserRights}
use Rattle.access_user.specs.Sights.{OwnAt, topmost}
use Rattle.access_user.specs.declared.rights.UserRights.{UserRights}
use Rattle.access_user.specs.declared.sight.UserSight.{UserSight}
use Rattle.access_user.specs.declared.steps.Step.{Step}
use Rattle.access_user.specs.inner.Steps.{Fact, Leads, end_of}

-- ---- the levels on the topmost object

-- the rights are the user's, the layout is the tenant's, and the steps lead to the records of its topmost masters
pub record MayMake (rights : UserRights) (l : Layout) (steps : List Step) (q : OrgPlan) (t : Tenant) (u : User) : Type 0 where
  pub granted : IsUserRights t u rights
  pub layout : IsLayout q t l
  pub leads : Leads q t l.org l.object steps

-- what is made without a look at the tables is what is known of these
abbrev pub MakesOwn : UserRights → Layout → List Step → Result OwnLevels CodecFail → Type 0
MakesOwn rights l steps (Ok own) =
    (q : OrgPlan) (t : Tenant) (u : User) → MayMake rights l steps q t u
    → OwnAt rights.sharer.people t u (end_of l.object steps) own
MakesOwn rights l steps (Err codec.Damaged) = (q : OrgPlan) (t : Tenant) (u : User) → MayMake rights l steps q t u → ⊥
MakesOwn rights l steps (Err codec.Memory) = Unit {0}

-- ---- a record's master

-- the record of the step's object that a record names
abbrev pub master_there : Step → Record → Tenant → Option Record
master_there s r t = option_and_then (record_of_object t s.layout.object) (ref_of (value_at r.values s.position))

-- ---- levels

-- who may edit a master has its details in full
abbrev pub full_of : Result Level StoreFail → Result Level StoreFail
full_of (Ok level) = Ok (full_for_edit level)
full_of (Err e) = Err e

-- the rights are the user's, the record is the tenant's, the steps lead to its topmost master, and what is known of that one's object and
-- of shares is so
pub record MayClimb (s : UserSight) (org : ℕ) (steps : List Step) (r : Record) (q : OrgPlan) (t : Tenant) (u : User) : Type 0 where
  pub granted : IsUserRights t u s.rights.now
  pub has : Has t.records r
  pub leads : Leads q t org (object_number r.id) steps
  pub own_end : OwnAt s.rights.now.sharer.people t u (end_of (object_number r.id) steps) s.own
  pub shares : s.shared ≡ false → t.shares ≡ []

-- as far as it is asked for, it is the level on the record, through at least so many masters
abbrev pub IsLevelWithin : (asked : Level) → (steps : ℕ) → Record → Level → Fact
IsLevelWithin asked n r x q t u = (k : ℕ) → n ≤ k → up_to asked x ≡ up_to asked (level_within (suc k) t u r)

abbrev pub IsOwnLevel : (asked : Level) → Record → Level → Fact
IsOwnLevel asked r x q t u = up_to asked x ≡ up_to asked (own_level t u r)

-- the record is the tenant's, of the object whose layout is the tenant's too, and the rights are the user's
pub record MayJudge (rights : UserRights) (l : Layout) (r : Record) (q : OrgPlan) (t : Tenant) (u : User) : Type 0 where
  pub granted : IsUserRights t u rights
  pub layout : IsLayout q t l
  pub has : Has t.records r
  pub number : object_number r.id ≡ l.object

-- the same, and what is known of the object of its topmost masters and of shares is so
pub record MaySee (s : UserSight) (l : Layout) (r : Record) (q : OrgPlan) (t : Tenant) (u : User) : Type 0 where
  pub may : MayJudge s.rights.now l r q t u
  pub own_top : OwnAt s.rights.now.sharer.people t u (topmost (limit_number limit.DetailLevels) t.objects l.object) s.own
  pub shares : s.shared ≡ false → t.shares ≡ []

-- as far as it is asked for, it is the level on the record
abbrev pub IsLevel : (asked : Level) → Record → Level → Fact
IsLevel asked r x q t u = up_to asked x ≡ up_to asked (level t u r)
