-- A sound tenant, in its parts and its formulas: each is kept for itself.
use Rattle.std.proofs.Common.{◌≤◌}
use Rattle.std.specs.Prelude.{IsTrue}
use Rattle.model.specs.declared.limit.Limit.TheVariants as limit
use Rattle.model.specs.Known.{known, NumbersDiffer}
use Rattle.model.specs.Limits.{limit_number}
use Rattle.model.specs.Sound.{IsSound}
use Rattle.model.specs.SoundFormulas.{AreFormulasSound}
use Rattle.model.specs.SoundJob.{HasSoundJob}
use Rattle.model.specs.SoundMetadata.{HasSoundMetadata}
use Rattle.model.specs.SoundPeople.{is_name, HasSoundUsers, HasSoundRoles, HasSoundGroups}
use Rattle.model.specs.SoundRecords.{HasSoundRecords}
use Rattle.model.specs.SoundSharing.{HasSoundRules, HasSoundShares}
use Rattle.model.specs.Tenant.{Tenant}

-- all but the formulas of rules
pub record HasSoundParts (t : Tenant) : Type 0 where
  pub name : IsTrue (is_name t.name)
  pub counter : t.counter ≤ limit_number limit.Ids
  pub numbers : NumbersDiffer (known t)
  pub users : HasSoundUsers (known t) t.users
  pub roles : HasSoundRoles (known t) t.roles
  pub groups : HasSoundGroups (known t) t.groups
  pub metadata : HasSoundMetadata t.objects
  pub records : HasSoundRecords (known t) t.objects t.records
  pub rules : HasSoundRules (known t) t.objects t.rule_numbers t.sharing_rules
  pub shares : HasSoundShares (known t) t.objects t.shares
  pub job : HasSoundJob t.counter t.objects t.records t.job

pub parts : {t : Tenant} → IsSound t → HasSoundParts t
parts s =
    record {
      name = s.name;
      counter = s.counter;
      numbers = s.numbers;
      users = s.users;
      roles = s.roles;
      groups = s.groups;
      metadata = s.metadata;
      records = s.records;
      rules = s.rules;
      shares = s.shares;
      job = s.job;
    }

pub whole : {t : Tenant} → HasSoundParts t → AreFormulasSound t → IsSound t
whole s f =
    record {
      name = s.name;
      counter = s.counter;
      numbers = s.numbers;
      users = s.users;
      roles = s.roles;
      groups = s.groups;
      metadata = s.metadata;
      records = s.records;
      rules = s.rules;
      shares = s.shares;
      job = s.job;
      formulas = f;
    }
