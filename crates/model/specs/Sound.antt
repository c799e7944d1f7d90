-- Sound tenants and worlds: what holds of every organisation at every moment, part by part. The limits are this product's own.
use Rattle.std.specs.Prelude.{◌≤◌, length, IsTrue}
use Rattle.std.specs.List.{AllByRecursion}
use Rattle.model.specs.declared.limit.Limit.TheVariants as limit
use Rattle.model.specs.Known.{known, NumbersDiffer}
use Rattle.model.specs.Limits.{limit_number}
use Rattle.model.specs.SoundFormulas.{AreFormulasSound}
use Rattle.model.specs.SoundJob.{HasSoundJob}
use Rattle.model.specs.SoundMetadata.{HasSoundMetadata}
unfoldable pub use Rattle.model.specs.SoundPeople.{is_name}
use Rattle.model.specs.SoundPeople.{HasSoundUsers, HasSoundRoles, HasSoundGroups}
use Rattle.model.specs.SoundRecords.{HasSoundRecords}
use Rattle.model.specs.SoundSharing.{HasSoundRules, HasSoundShares}
use Rattle.model.specs.Tenant.{Tenant}
use Rattle.model.specs.World.{World}

pub record IsSound (t : Tenant) : Type 0 where
  pub name : IsTrue (is_name t.name)
  pub counter : t.counter ≤ limit_number limit.Ids
  -- numbers of ids differ
  pub numbers : NumbersDiffer (known t)
  pub users : HasSoundUsers (known t) t.users
  pub roles : HasSoundRoles (known t) t.roles
  pub groups : HasSoundGroups (known t) t.groups
  pub metadata : HasSoundMetadata t.objects
  pub records : HasSoundRecords (known t) t.objects t.records
  pub rules : HasSoundRules (known t) t.objects t.rule_numbers t.sharing_rules
  pub shares : HasSoundShares (known t) t.objects t.shares
  pub job : HasSoundJob t.counter t.objects t.records t.job
  pub formulas : AreFormulasSound t

-- at most so many organisations, each sound
pub record IsWorld (w : World) : Type 0 where
  pub few : length w ≤ limit_number limit.Organisations
  pub tenants : AllByRecursion IsSound w
