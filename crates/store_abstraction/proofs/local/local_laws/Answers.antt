use Rattle.std.proofs.Common.{None, refl}
use Rattle.store_codec.specs.Plain.{number32}
use Rattle.store_abstraction.proofs.Edited as edited
use Rattle.store_abstraction.proofs.Intervals.{under_shorter}
use Rattle.store_abstraction.proofs.Listed.{same_rows}
use Rattle.store_abstraction.proofs.Standing as standing
use Rattle.store_abstraction.proofs.Places.{PrefixLaws, place_is}
use Rattle.store_abstraction.proofs.local.local_laws.Goals as goal

pub returns-clause-own : goal.returns-clause-own
returns-clause-own c =
    place_is (record { interval = c.key_laws.ensures.interval; unbounded = c.key_laws.ensures.unbounded; bytes = c.table_laws.ensures.bytes })

pub returns-clause-each : goal.returns-clause-each
returns-clause-each c =
    standing.stands_in (record { interval = c.key_laws.ensures.interval; unbounded = c.key_laws.ensures.unbounded; bytes = c.table_laws.ensures.bytes }) c.key_laws.ensures.exact

pub returns-clause-whole : goal.returns-clause-whole
returns-clause-whole c p m after w n t u q ln s at s_in others =
    let laws : PrefixLaws = record { interval = c.key_laws.ensures.interval; unbounded = c.key_laws.ensures.unbounded; bytes = c.table_laws.ensures.bytes } in
    standing.whole laws c.key_laws.ensures.exact p m after w n t u q ln s s_in others c.tenant_laws.ensures.put c.tenant_laws.ensures.others c.table_laws.ensures.same at

pub returns-clause-nobody : goal.returns-clause-nobody
returns-clause-nobody c p m after w n q ln s at s_in others =
    let laws : PrefixLaws = record { interval = c.key_laws.ensures.interval; unbounded = c.key_laws.ensures.unbounded; bytes = c.table_laws.ensures.bytes } in
    standing.nobody laws c.key_laws.ensures.exact p m after w n q ln s None s_in others refl at

pub returns-clause-edited : goal.returns-clause-edited
returns-clause-edited c =
    let laws : PrefixLaws = record { interval = c.key_laws.ensures.interval; unbounded = c.key_laws.ensures.unbounded; bytes = c.table_laws.ensures.bytes } in
    let tables = c.table_laws.ensures in
    edited.edited laws c.key_laws.ensures.total c.key_laws.ensures.exact tables.equal tables.put tables.removed tables.same

pub returns-clause-kept : goal.returns-clause-kept
returns-clause-kept c m n changes ln are =
    let laws : PrefixLaws = record { interval = c.key_laws.ensures.interval; unbounded = c.key_laws.ensures.unbounded; bytes = c.table_laws.ensures.bytes } in
    edited.kept laws c.key_laws.ensures.total c.key_laws.ensures.exact n changes m ln are

pub returns-clause-under : goal.returns-clause-under
returns-clause-under c n rest above key e inside = under_shorter (number32 n) rest above key e inside

pub returns-clause-listed : goal.returns-clause-listed
returns-clause-listed c m n table from below within =
    same_rows c.key_laws.ensures.exact c.walk_laws.ensures.is_listing c.walk_laws.ensures.listed m n table from below within
