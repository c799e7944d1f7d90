use Rattle.store_abstraction.proofs.Found.{sound_tenant}
use Rattle.store_abstraction.proofs.Parts as parts
use Rattle.store_abstraction.proofs.Versions.{known, not_both}
use Rattle.store_abstraction.specs.Stands.{all_tables}
use Rattle.store_abstraction.proofs.laws.stands_laws.Goals as goal

pub returns-clause-empty : goal.returns-clause-empty
returns-clause-empty c = parts.empty_stands c.table_laws.ensures.same (c.table_laws.ensures.empty all_tables)

pub returns-clause-known : goal.returns-clause-known
returns-clause-known c m w s = known m w s

pub returns-clause-one_version : goal.returns-clause-one_version
returns-clause-one_version c m k u = not_both c.row_laws.ensures.one m k u

pub returns-clause-own : goal.returns-clause-own
returns-clause-own c p w n t k at e = parts.own p w n t k at e

pub returns-clause-past : goal.returns-clause-past
returns-clause-past c p w k e = parts.past p w k e

pub returns-clause-appended : goal.returns-clause-appended
returns-clause-appended c p m after w t q s few sound fits holds = parts.appended c.table_laws.ensures.same p m after w t q s few sound fits holds

pub returns-clause-sound : goal.returns-clause-sound
returns-clause-sound c m w n t s at = sound_tenant w n t s.1.world.tenants at
